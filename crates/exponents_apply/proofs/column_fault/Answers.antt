-- The loop finds the first fault: the test at k is that of the value and the exponents that were read.
use Rattle.std.proofs.Common.{◌≡◌, Bool, true, false, get_or, ◌+ℤ◌, w32, to_z, of_z, ap, refl, rules, arith}
use Rattle.refusal.specs.Refusal.{value_not_normal}
use Rattle.sparse.specs.Fault.{unless}
use Rattle.sparse.proofs.First.{pass, found, done}
use Rattle.exponents_powers.specs.Power.{scalable}
use Rattle.exponents_apply.specs.Apply.{exponent_at, column_fault}
use Rattle.exponents_apply.proofs.column_fault.Goals as goal

pub loop-k-init : goal.loop-k-init
unfolding column_fault
loop-k-init c = refl

pub returns-then-not-is_scalable : goal.returns-then-not-is_scalable
returns-then-not-is_scalable c =
    let a = c.args in
    let k = c.loop-k.k in
    let t : scalable (get_or a.values.now k 0) (exponent_at a.row_exponents.now (get_or a.row_idx.now k 0) +ℤ to_z w32 (of_z w32 a.column_exponent)) ≡ false = search rules in
    let s : to_z w32 (of_z w32 a.column_exponent) ≡ a.column_exponent = search rules in
    rw (← s) (found _ _ k c.loop-k.invariant (omega arith) (ap (λ (t : Bool). unless t value_not_normal) t) (omega arith))

pub loop-k-preserved : goal.loop-k-preserved
loop-k-preserved c =
    let a = c.args in
    let k = c.loop-k.k in
    let t : scalable (get_or a.values.now k 0) (exponent_at a.row_exponents.now (get_or a.row_idx.now k 0) +ℤ to_z w32 (of_z w32 a.column_exponent)) ≡ true = search rules in
    pass _ _ k c.loop-k.invariant (omega arith) (ap (λ (t : Bool). unless t value_not_normal) t)

pub returns : goal.returns
returns c =
    let s : to_z w32 (of_z w32 c.args.column_exponent) ≡ c.args.column_exponent = search rules in
    rw s at (done _ _ c.loop-k.k c.loop-k.invariant (omega arith))
