-- Each refusal is the first fault of the chain and leaves the values; after all tests the values are scaled.
use Rattle.std.proofs.Common.{◌≡◌, refl, sym, ◌∙◌, rules}
use Rattle.refusal.specs.Number.{number, number_of}
use Rattle.refusal.proofs.Numbers.{number_ne_zero}
use Rattle.sparse.specs.Pattern.{pattern}
use Rattle.sparse.proofs.First.{or-none, answer_first, answer_second}
use Rattle.exponents_powers.specs.Power.{exponents}
use Rattle.exponents_apply.specs.Apply.{apply_fault}
use Rattle.exponents_apply.proofs.Calling.{tested, refuses, accepts}
use Rattle.exponents_apply.proofs.apply_exponents.Goals as goal

pub returns-in_err-pattern_fault : goal.returns-in_err-pattern_fault
unfolding apply_fault
returns-in_err-pattern_fault c =
    let a = c.args in
    let e = c.in_err-pattern_fault.field-0.0 in
    let s : number_of c.from_residual.result ≡ number e = search rules in
    rw s (refuses (pattern a.n a.col_ptr.now a.row_idx.now) (exponents a.row_exponents.now a.column_exponents.now) a.values.now
    (answer_first _ c.in_err-pattern_fault.ensures (number_ne_zero e)) (number_ne_zero e))

pub returns-in_err-limit_fault : goal.returns-in_err-limit_fault
unfolding apply_fault
returns-in_err-limit_fault c =
    let a = c.args in
    let e = c.in_err-limit_fault.field-0.0 in
    let s : number_of c.from_residual-in_err-limit_fault.result ≡ number e = search rules in
    rw s (refuses (pattern a.n a.col_ptr.now a.row_idx.now) (exponents a.row_exponents.now a.column_exponents.now) a.values.now
    (answer_second c.in_ok-pattern_fault.ensures refl (answer_first _ c.in_err-limit_fault.ensures (number_ne_zero e))) (number_ne_zero e))

pub returns-in_err-limit_fault-2 : goal.returns-in_err-limit_fault-2
unfolding apply_fault
returns-in_err-limit_fault-2 c =
    let a = c.args in
    let e = c.in_err-limit_fault-2.field-0.0 in
    let s : number_of c.from_residual-in_err-limit_fault-2.result ≡ number e = search rules in
    rw s (refuses (pattern a.n a.col_ptr.now a.row_idx.now) (exponents a.row_exponents.now a.column_exponents.now) a.values.now
    (answer_second c.in_ok-pattern_fault.ensures refl
    (answer_second c.in_ok-limit_fault.ensures refl (answer_first _ c.in_err-limit_fault-2.ensures (number_ne_zero e)))) (number_ne_zero e))

pub values_fault-requires : goal.values_fault-requires
values_fault-requires c =
    let a = c.args in
    tested (pattern a.n a.col_ptr.now a.row_idx.now) (exponents a.row_exponents.now a.column_exponents.now) a.values.now (sym c.in_ok-pattern_fault.ensures)
    (sym c.in_ok-limit_fault.ensures) (sym c.in_ok-limit_fault-2.ensures)

pub returns-in_err-values_fault : goal.returns-in_err-values_fault
unfolding apply_fault
returns-in_err-values_fault c =
    let a = c.args in
    let e = c.in_err-values_fault.field-0.0 in
    let s : number_of c.from_residual-in_err-values_fault.result ≡ number e = search rules in
    rw s (refuses (pattern a.n a.col_ptr.now a.row_idx.now) (exponents a.row_exponents.now a.column_exponents.now) a.values.now
    (answer_second c.in_ok-pattern_fault.ensures refl
    (answer_second c.in_ok-limit_fault.ensures refl (answer_second c.in_ok-limit_fault-2.ensures refl c.in_err-values_fault.ensures))) (number_ne_zero e))

pub scale_values-requires-clause-tested : goal.scale_values-requires-clause-tested
scale_values-requires-clause-tested c =
    let a = c.args in
    tested (pattern a.n a.col_ptr.now a.row_idx.now) (exponents a.row_exponents.now a.column_exponents.now) a.values.now (sym c.in_ok-pattern_fault.ensures)
    (sym c.in_ok-limit_fault.ensures) (sym c.in_ok-limit_fault-2.ensures)

pub returns : goal.returns
unfolding apply_fault
returns c =
    let a = c.args in
    accepts (pattern a.n a.col_ptr.now a.row_idx.now) (exponents a.row_exponents.now a.column_exponents.now) a.values.now _
    (or-none (sym c.in_ok-pattern_fault.ensures) ∙ or-none (sym c.in_ok-limit_fault.ensures)
    ∙ or-none (sym c.in_ok-limit_fault-2.ensures) ∙ sym c.in_ok-values_fault.ensures)
    c.scale_values.ensures
