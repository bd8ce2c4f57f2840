-- Numbers below 2 ^ 26 are added.
use Rattle.std.proofs.Common.{◌*◌, ◌^◌, ◌≤◌}
use Rattle.root_blocks.proofs.off_line.Given as goal

abbrev pub invariant-loop-b : goal.invariant-loop-b
invariant-loop-b l = l.off ≤ l.b-index * 2 ^ 26
