-- Every square stays within 64 bits; the number itself falls.
use Rattle.std.proofs.Common.{◌<◌, ◌^◌}
use Rattle.square_root.proofs.lowered.Given as goal

abbrev pub invariant-loop-s : goal.invariant-loop-s
invariant-loop-s l = l.s < 2 ^ 27

abbrev pub decreases-loop-s : goal.decreases-loop-s
decreases-loop-s l = l.s
