-- The loop finds the first fault: the test at the index is that of the exponent that was read there.
use Rattle.std.proofs.Common.{◌≡◌, Bool, true, false, ap, rules, arith}
use Rattle.refusal.specs.Refusal.{exponent_range}
use Rattle.sparse.specs.Fault.{unless}
use Rattle.sparse.proofs.First.{from_zero, pass, found, done}
use Rattle.exponents_powers.specs.Power.{within_limit}
use Rattle.exponents_apply.specs.Apply.{exponent_at, limit_fault}
use Rattle.exponents_apply.proofs.limit_fault.Goals as goal

pub loop-exponent-init : goal.loop-exponent-init
unfolding limit_fault
loop-exponent-init c = from_zero _ _

pub returns-then-not-within_limit : goal.returns-then-not-within_limit
returns-then-not-within_limit c =
    let l = c.loop-exponent in
    let t : within_limit (exponent_at c.args.exponents.now l.exponent-index) ≡ false = search rules in
    found _ _ l.exponent-index l.invariant (omega arith) (ap (λ (t : Bool). unless t exponent_range) t) (omega arith)

pub loop-exponent-preserved : goal.loop-exponent-preserved
loop-exponent-preserved c =
    let l = c.loop-exponent in
    let t : within_limit (exponent_at c.args.exponents.now l.exponent-index) ≡ true = search rules in
    pass _ _ l.exponent-index l.invariant (omega arith) (ap (λ (t : Bool). unless t exponent_range) t)

pub returns : goal.returns
returns c = done _ _ c.loop-exponent.exponent-index c.loop-exponent.invariant (omega arith)
