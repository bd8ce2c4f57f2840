-- `hungarian_path::reset`: the rows before the index are put back, by Resets.
use Rattle.hungarian_path.proofs.Resets.{ResetAt}
use Rattle.hungarian_path.proofs.reset.Given as goal

abbrev pub invariant-loop-row : goal.invariant-loop-row
invariant-loop-row l = ResetAt l.row-items l.initial.pos l.initial.d l.pos l.d l.row-index
