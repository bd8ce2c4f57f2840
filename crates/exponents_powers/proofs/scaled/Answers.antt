-- A zero stays; otherwise the new field replaces the old one.
use Rattle.std.proofs.Common.{◌+ℤ◌, sym, arith}
use borrow.Author.Tests.{eq-eqb, ne_eqb}
use Rattle.exponents_powers.proofs.Laws.{zero_scaled}
use Rattle.exponents_powers.proofs.Fields.{read_raised, Found, found}
use Rattle.exponents_powers.proofs.scaled.Goals as goal
use Rattle.exponents_powers.proofs.scaled.Goals.{After-raised-2}

facts : (c : After-raised-2) → let a = c.args in
    Found a.bits c.raised.result c.raised-2.result (a.row +ℤ a.column)
facts c =
    let a = c.args in
    found a.bits c.raised.result c.raised-2.result a.row a.column
    (read_raised a.row c.ranges.row c.raised.ensures.0) (read_raised a.column c.ranges.column c.raised-2.ensures.0)
    (ne_eqb _ _ c.if-bits-eq0.false) c.requires.column_value

pub returns-then-bits-eq0 : goal.returns-then-bits-eq0
returns-then-bits-eq0 c = let a = c.args in sym (zero_scaled a.bits (a.row +ℤ a.column) (eq-eqb _ _ c.if-bits-eq0.true))

pub overflow_sub-field : goal.overflow_sub-field
overflow_sub-field c = let f = facts c in omega (arith, f.sum, f.low)

pub overflow_add-result : goal.overflow_add-result
overflow_add-result c = let f = facts c in record { fits = omega (arith, f.sum, f.low, f.high) }

pub overflow_add-result-2 : goal.overflow_add-result-2
overflow_add-result-2 c = let f = facts c in record { fits = omega (arith, f.sum, f.low, f.high) }

pub returns : goal.returns
returns c = let f = facts c in omega (arith, f.sum, f.low, f.high, f.is)
