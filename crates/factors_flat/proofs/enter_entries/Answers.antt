-- `enter_entries`: one more column enters.
use Rattle.std.proofs.Common.{arith}
use Rattle.factors_flat.proofs.Sums.{enters_next}
use Rattle.factors_flat.proofs.enter_entries.Goals as goal

pub loop-j-preserved : goal.loop-j-preserved
loop-j-preserved c = enters_next (omega arith) c.loop-j.invariant c.enter_column.ensures
