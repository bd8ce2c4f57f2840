-- `csc::columns_fault`: no column before j has a fault.
use Rattle.std.proofs.Common.{suc, get_or}
use Rattle.sparse.specs.Validate.{symmetric_column, symmetric_columns}
use Rattle.sparse.proofs.First.{Passed}
use Rattle.sparse.proofs.csc.columns_fault.Given as goal

abbrev pub invariant-loop-j : goal.invariant-loop-j
invariant-loop-j l =
    Passed (symmetric_columns l.n l.col_ptr l.row_idx)
    (λ j. symmetric_column l.n l.row_idx j (get_or l.col_ptr j 0) (get_or l.col_ptr (suc j) 0)) l.n l.j
