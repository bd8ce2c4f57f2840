-- `subtract`: one more log becomes a cost.
use Rattle.std.proofs.Common.{arith}
use Rattle.mc64_columns.proofs.Loops.{costs_go_on}
use Rattle.mc64_columns.proofs.subtract.Goals as goal

pub loop-log-preserved : goal.loop-log-preserved
loop-log-preserved c =
    rw c.loop-log.invariant (costs_go_on c.args.top c.args.column.now c.loop-log.log-index (omega arith))
