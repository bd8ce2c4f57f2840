-- `csc::columns_fault` meets its contract: a column's entries are among the matrix's, and the first fault is answered.
use Rattle.std.proofs.Common.{◌+◌, sym, arith}
use Rattle.std.proofs.lemmas.Result.{err_from_is_err_and}
use native.Mathlib.Numerals.{add-one}
use Rattle.refusal.proofs.Numbers.{number_ne_zero}
use Rattle.sparse.specs.Validate.{symmetric_columns}
use Rattle.sparse.proofs.First.{from_zero, pass, found, done}
use Rattle.sparse.proofs.Accepted.{pointer_below}
use Rattle.sparse.proofs.csc.columns_fault.Goals as goal

pub loop-j-init : goal.loop-j-init
unfolding symmetric_columns
loop-j-init c = from_zero _ c.args.n

pub column_fault-requires-clause-fact_2 : goal.column_fault-requires-clause-fact_2
column_fault-requires-clause-fact_2 c = pointer_below c.requires.pointers (c.loop-j.j + 1) (omega arith)

pub returns-in_err-column_fault : goal.returns-in_err-column_fault
returns-in_err-column_fault c =
    let p = err_from_is_err_and c.from_residual.result c.from_residual.ensures.1 in
    rw (p.1, p.2)
    (found _ _ c.loop-j.j c.loop-j.invariant (omega arith) (rw (← add-one c.loop-j.j) (sym c.in_err-column_fault.ensures)) (number_ne_zero _))

pub loop-j-preserved : goal.loop-j-preserved
loop-j-preserved c =
    pass _ _ c.loop-j.j c.loop-j.invariant (omega arith) (rw (← add-one c.loop-j.j) (sym c.in_ok-column_fault.ensures))

pub returns : goal.returns
returns c = done _ _ c.loop-j.j c.loop-j.invariant (omega arith)
