-- `values_fault`: no column before j has a fault.
use Rattle.std.proofs.Common.{suc, get_or}
use Rattle.sparse.specs.Pattern.{pattern}
use Rattle.sparse.proofs.First.{Passed}
use Rattle.exponents_powers.specs.Power.{exponents}
use Rattle.exponents_apply.specs.Apply.{exponent_at, column_fault, values_fault}
use Rattle.exponents_apply.proofs.values_fault.Given as goal

abbrev pub invariant-loop-j : goal.invariant-loop-j
invariant-loop-j l =
    Passed (values_fault (pattern l.n l.col_ptr l.row_idx) (exponents l.row_exponents l.column_exponents) l.values)
    (λ j. column_fault l.row_idx l.row_exponents (exponent_at l.column_exponents j) l.values (get_or l.col_ptr j 0) (get_or l.col_ptr (suc j) 0)) l.n l.j
