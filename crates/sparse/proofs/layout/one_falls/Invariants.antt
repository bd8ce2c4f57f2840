-- `layout::one_falls`: no pointer before place j falls, or one that falls was met.
use Rattle.refusal.specs.Refusal.{column_pointers}
use Rattle.sparse.specs.Fault.{first_of}
use Rattle.sparse.specs.Validate.{fall_at}
use Rattle.sparse.proofs.First.{Gathered}
use Rattle.sparse.proofs.layout.one_falls.Given as goal

abbrev pub invariant-loop-j : goal.invariant-loop-j
invariant-loop-j l = Gathered (first_of l.n (fall_at l.col_ptr) 0) column_pointers (fall_at l.col_ptr) l.n l.j l.fell
