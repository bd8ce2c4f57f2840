-- `csc::lower_fault`: no entry before k has a fault.
use Rattle.sparse.specs.Validate.{lower_entry, lower_column}
use Rattle.sparse.proofs.First.{Passed}
use Rattle.sparse.proofs.csc.lower_fault.Given as goal

abbrev pub invariant-loop-k : goal.invariant-loop-k
invariant-loop-k l = Passed (lower_column l.n l.row_idx l.j l.from l.to) (lower_entry l.n l.row_idx l.j) l.to l.k
