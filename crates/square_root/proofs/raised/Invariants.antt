-- The square is still at most n, which keeps the number below 2 ^ 27; what is left to there falls.
use Rattle.std.proofs.Common.{◌-◌, ◌*◌, ◌≤◌, ◌<◌, ◌^◌}
use Rattle.square_root.proofs.raised.Given as goal

abbrev pub invariant-loop-s : goal.invariant-loop-s
invariant-loop-s l = (l.s * l.s ≤ l.n) × (l.s < 2 ^ 27)

abbrev pub decreases-loop-s : goal.decreases-loop-s
decreases-loop-s l = 2 ^ 27 - l.s
