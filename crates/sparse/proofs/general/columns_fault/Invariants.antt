-- `general::columns_fault`: no column before j has a fault.
use Rattle.std.proofs.Common.{suc, get_or}
use Rattle.sparse.specs.Validate.{general_column, general_columns}
use Rattle.sparse.proofs.First.{Passed}
use Rattle.sparse.proofs.general.columns_fault.Given as goal

abbrev pub invariant-loop-j : goal.invariant-loop-j
invariant-loop-j l =
    Passed (general_columns l.n l.col_ptr l.row_idx)
    (λ j. general_column l.n l.row_idx (get_or l.col_ptr j 0) (get_or l.col_ptr (suc j) 0)) l.n l.j
