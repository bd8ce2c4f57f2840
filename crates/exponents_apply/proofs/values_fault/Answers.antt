-- The loop finds the first fault: that of column j is what `column_fault` answers.
use Rattle.std.proofs.Common.{◌≡◌, ◌+◌, w32, to_z, of_z, sym, ◌∙◌, rules, arith}
use Rattle.std.proofs.Common.{add-one}
use Rattle.refusal.specs.Number.{number, number_of}
use Rattle.refusal.proofs.Numbers.{number_ne_zero}
use Rattle.sparse.proofs.Accepted.{pointer_below}
use Rattle.sparse.proofs.First.{from_zero, pass, found, done}
use Rattle.exponents_apply.specs.Apply.{exponent_at, values_fault}
use Rattle.exponents_apply.proofs.values_fault.Goals as goal

pub loop-j-init : goal.loop-j-init
unfolding values_fault
loop-j-init c = from_zero _ _

pub column_fault-requires-clause-to_in_bounds : goal.column_fault-requires-clause-to_in_bounds
column_fault-requires-clause-to_in_bounds c =
    let j = c.loop-j.j in
    let read : to_z w32 (of_z w32 (exponent_at c.args.column_exponents.now j)) ≡ exponent_at c.args.column_exponents.now j = search rules in
    (pointer_below c.requires.columns.pointers (j + 1) (omega arith), rw read (c.requires.within j (omega arith)))

pub returns-in_err-column_fault : goal.returns-in_err-column_fault
returns-in_err-column_fault c =
    let a = c.args in
    let j = c.loop-j.j in
    let e = c.in_err-column_fault.field-0.0 in
    let s : number_of c.from_residual.result ≡ number e = search rules in
    let read : to_z w32 (of_z w32 (exponent_at a.column_exponents.now j)) ≡ exponent_at a.column_exponents.now j = search rules in
    s ∙ found _ _ j c.loop-j.invariant (omega arith) (sym (rw (read, add-one) at c.in_err-column_fault.ensures)) (number_ne_zero e)

pub loop-j-preserved : goal.loop-j-preserved
loop-j-preserved c =
    let j = c.loop-j.j in
    let read : to_z w32 (of_z w32 (exponent_at c.args.column_exponents.now j)) ≡ exponent_at c.args.column_exponents.now j = search rules in
    pass _ _ j c.loop-j.invariant (omega arith) (sym (rw (read, add-one) at c.in_ok-column_fault.ensures))

pub returns : goal.returns
returns c = done _ _ c.loop-j.j c.loop-j.invariant (omega arith)
