-- `hungarian_path::walk`: the pairs flipped so far, with as many steps to go as are left of `most`, by Flips.
use Rattle.std.proofs.Common.{◌-◌}
use Rattle.hungarian_path.proofs.Flips.{WalkAt}
use Rattle.hungarian_path.proofs.walk.Given as goal

abbrev pub invariant-loop : goal.invariant-loop
invariant-loop l = WalkAt l.n l.row_idx l.initial.work l.j l.most l.work l.column (l.most - l.counter)
