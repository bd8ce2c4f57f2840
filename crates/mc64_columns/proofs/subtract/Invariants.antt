-- The loop of `subtract`: the costs before the index, the logs from it on.
use Rattle.std.proofs.Common.{◌≡◌}
use Rattle.mc64_columns.proofs.Loops.{partly}
use Rattle.mc64_columns.proofs.subtract.Given as goal

abbrev pub invariant-loop-log : goal.invariant-loop-log
invariant-loop-log l = l.log-items ≡ partly l.top l.fn.column l.log-index
