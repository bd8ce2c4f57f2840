-- `hungarian_claim::row_minima`: one more column is examined, and all columns are, by the laws of Minima.
use Rattle.std.proofs.Common.{◌∙◌}
use Rattle.hungarian_claim.proofs.Minima.{scanning_start, scanning_turn, scanning_end}
use Rattle.hungarian_claim.proofs.row_minima.Goals as goal

pub loop-j-init : goal.loop-j-init
loop-j-init c =
    scanning_start (record {
      sound = c.requires.sound;
      duals = c.clear.auto.u ∙ c.requires.duals;
      words = c.clear.auto.work ∙ c.requires.words;
    }) c.clear.ensures

pub loop-j-preserved : goal.loop-j-preserved
loop-j-preserved c =
    scanning_turn c.loop-j.invariant c.loop-j-test.true c.lower_column.auto.u c.lower_column.auto.work
    c.lower_column.ensures

pub returns : goal.returns
returns c = scanning_end c.loop-j.invariant c.loop-j-test.false
