-- The loop of `top_of`: the largest log so far, and the rest, give the largest of all.
use Rattle.std.proofs.Common.{◌≡◌, drop}
use Rattle.mc64_columns.specs.Columns.{largest, largest_from}
use Rattle.mc64_columns.proofs.top_of.Given as goal

abbrev pub invariant-loop-log : goal.invariant-loop-log
invariant-loop-log l = largest_from l.top (drop l.log-index l.log-items) ≡ largest l.column
