-- `column_fault`: no place of the column before k has a fault.
use Rattle.sparse.proofs.First.{Passed}
use Rattle.exponents_apply.specs.Apply.{place_fault, column_fault}
use Rattle.exponents_apply.proofs.column_fault.Given as goal

abbrev pub invariant-loop-k : goal.invariant-loop-k
invariant-loop-k l =
    Passed (column_fault l.row_idx l.row_exponents l.column_exponent l.values l.from l.to)
    (place_fault l.row_idx l.row_exponents l.column_exponent l.values) l.to l.k
