-- `fill_factors`: one more factor is the definition's, and in the end all are.
use Rattle.std.proofs.Common.{refl, ◌∙◌, arith}
use Rattle.factors_mc64.specs.Factors.{doubles_of}
use Rattle.factors_mc64.proofs.Loops.{fill_goes_on, fill_ends, mark_tells}
use Rattle.factors_mc64.proofs.fill_factors.Goals as goal

pub loop-i-init : goal.loop-i-init
unfolding doubles_of
loop-i-init c = refl

pub loop-i-preserved : goal.loop-i-preserved
loop-i-preserved c =
    fill_goes_on _ _ c.loop-i.i _ (omega arith)
    (c.log_factor.ensures ∙ rw (mark_tells c.requires.marked c.loop-i.i c.loop-i-test.true) refl)
    c.loop-i.invariant

pub returns : goal.returns
returns c = fill_ends _ _ _ c.loop-i.i (omega arith) (omega arith) c.loop-i.invariant
