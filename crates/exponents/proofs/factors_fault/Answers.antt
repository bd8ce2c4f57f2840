-- The loop finds the first fault: the test at i is that of the exponent that was found there.
use Rattle.std.proofs.Common.{Bool, ap, ◌∙◌, arith}
use Rattle.refusal.specs.Refusal.{exponent_range}
use Rattle.sparse.specs.Fault.{unless}
use Rattle.sparse.proofs.First.{from_zero, pass, found, done}
use Rattle.exponents_powers.proofs.Fields.{read_is}
use Rattle.exponents.specs.Call.{factors_fault}
use Rattle.exponents.proofs.Calling.{tested}
use Rattle.exponents.proofs.factors_fault.Goals as goal

pub loop-i-init : goal.loop-i-init
unfolding factors_fault
loop-i-init g c = λ u e gives. rw (← e) (from_zero _ _)

pub returns-then-not-within_limit : goal.returns-then-not-within_limit
returns-then-not-within_limit g c = λ u e gives.
    let x = tested (gives.at c.loop-i.i (omega arith) _ c.factor.ensures) c.exponent_of.ensures (read_is _ c.exponent_of.type_inv) c.within_limit.ensures in
    found _ _ c.loop-i.i (c.loop-i.invariant u e gives) (omega arith)
    (ap (λ (t : Bool). unless t exponent_range) (x ∙ c.if-not-within_limit.true)) (omega arith)

pub loop-i-preserved : goal.loop-i-preserved
loop-i-preserved g c = λ u e gives.
    let x = tested (gives.at c.loop-i.i (omega arith) _ c.factor.ensures) c.exponent_of.ensures (read_is _ c.exponent_of.type_inv) c.within_limit.ensures in
    pass _ _ c.loop-i.i (c.loop-i.invariant u e gives) (omega arith)
    (ap (λ (t : Bool). unless t exponent_range) (x ∙ c.if-not-within_limit.false))

pub returns : goal.returns
returns g c = λ u e gives. done _ _ c.loop-i.i (c.loop-i.invariant u e gives) (omega arith)
