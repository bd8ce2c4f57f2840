-- `layout::triplets_fault`: no triplet before this one has a fault.
use Rattle.std.proofs.Common.{not, eqb, length}
use Rattle.sparse.specs.Fault.{first_of}
use Rattle.sparse.specs.Assemble.{triplet_of}
use Rattle.sparse.proofs.First.{Passed}
use Rattle.sparse.proofs.layout.triplets_fault.Given as goal

abbrev pub invariant-loop-row : goal.invariant-loop-row
invariant-loop-row g l =
    let fault = triplet_of (not (eqb g.row.LOWER 0)) l.n l.rows l.cols in
    Passed (first_of (length l.rows) fault 0) fault (length l.rows) (length l.yielded)
