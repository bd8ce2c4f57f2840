-- `turn_sums`: one more sum is turned, and in the end all are.
use Rattle.std.proofs.Common.{◌∙◌, sym, arith}
use Rattle.slices.proofs.Fronts.{front_start, front_end}
use Rattle.factors_flat.proofs.Ends.{turned_length, turn_next}
use Rattle.factors_flat.proofs.turn_sums.Goals as goal

pub loop-i-init : goal.loop-i-init
loop-i-init c = front_start _ _ (turned_length _ _ ∙ sym c.requires.0)

pub loop-i-preserved : goal.loop-i-preserved
loop-i-preserved c = turn_next _ _ _ c.requires.0 c.loop-i-test.true c.turn.ensures c.loop-i.invariant

pub returns : goal.returns
returns c = front_end c.loop-i.invariant (omega arith)
