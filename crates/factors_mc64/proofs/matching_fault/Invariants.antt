-- The loop of `matching_fault`: no entry of perm before the index has a fault.
use Rattle.std.proofs.Common.{length}
use Rattle.sparse.specs.Fault.{first_of}
use Rattle.sparse.proofs.First.{Passed}
use Rattle.factors_mc64.proofs.Loops.{row_fault}
use Rattle.factors_mc64.proofs.matching_fault.Given as goal

abbrev pub invariant-loop-row : goal.invariant-loop-row
invariant-loop-row l =
    let fault = row_fault l.n l.perm in
    Passed (first_of (length l.perm) fault 0) fault (length l.perm) l.row-index
