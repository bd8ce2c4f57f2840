-- The call tests the lengths, then the row factors, then the column factors, and then writes. A refusal's number is that of the first fault.
use Rattle.std.proofs.Common.{◌≡◌, ◌<◌, ℕ, List, Float, length, get_or, refl, rules, sym, ◌∙◌, arith}
use Rattle.std.specs.Float.{nan, binary64}
use Rattle.std.specs.Float.Ieee.{sub}
use Rattle.refusal.specs.Number.{number, number_of}
use Rattle.refusal.proofs.Numbers.{number_ne_zero}
use Rattle.sparse.proofs.First.{or-none, answer_first, answer_second}
use Rattle.exponents.specs.Call.{duals, differences, lengths_fit, factors_fault, exponents_fault}
use Rattle.exponents.proofs.Calling.{Fitting, fitting, refuses, accepts, differences_length, difference_at}
use Rattle.exponents.proofs.exponents.Goals as goal
use Rattle.exponents.proofs.exponents.Goals.{In_ok-size_fault, In_ok-factors_fault, In_ok-factors_fault-2}

-- what is known after each test
fit : (c : In_ok-size_fault) → let a = c.args in
    Fitting a.n (duals a.u.now a.v.now a.cmax.now) (length a.row_exponents.now) (length a.column_exponents.now)
unfolding lengths_fit
fit c =
    let a = c.args in
    fitting a.n (duals a.u.now a.v.now a.cmax.now) (length a.row_exponents.now) (length a.column_exponents.now) (sym c.in_ok-size_fault.ensures)

no-row-fault : (c : In_ok-factors_fault) → length c.args.u.now ≡ c.args.n → 0 ≡ factors_fault c.args.u.now
no-row-fault c u = c.in_ok-factors_fault.ensures c.args.u.now u (record { at = λ i h x p. search rules })

pub returns-in_err-size_fault : goal.returns-in_err-size_fault
unfolding exponents_fault lengths_fit
returns-in_err-size_fault c =
    let a = c.args in
    let e = number_ne_zero c.in_err-size_fault.field-0.0 in
    let s : number_of c.from_residual.result ≡ number c.in_err-size_fault.field-0.0 = search rules in
    rw s (refuses a.n (duals a.u.now a.v.now a.cmax.now) a.row_exponents.now a.column_exponents.now (answer_first _ c.in_err-size_fault.ensures e) e)

pub factors_fault-requires : goal.factors_fault-requires
factors_fault-requires c =
    let f = fit (goal.at.factors_fault-requires c).In_ok-size_fault in
    λ i h. search (rules, f)

pub factors_fault-requires-2 : goal.factors_fault-requires-2
factors_fault-requires-2 c =
    let f = fit (goal.at.factors_fault-requires-2 c).In_ok-size_fault in
    λ i h. search (rules, f)

pub write_exponents-requires : goal.write_exponents-requires
write_exponents-requires c =
    let f = fit (goal.at.write_exponents-requires c).In_ok-size_fault in
    λ i h. search (rules, f)

pub write_exponents-requires-2 : goal.write_exponents-requires-2
write_exponents-requires-2 c =
    let f = fit (goal.at.write_exponents-requires-2 c).In_ok-size_fault in
    λ i h. search (rules, f)

pub returns-in_err-factors_fault : goal.returns-in_err-factors_fault
unfolding exponents_fault lengths_fit
returns-in_err-factors_fault c =
    let a = c.args in
    let f = fit (goal.at.returns-in_err-factors_fault c).In_ok-size_fault in
    let e = number_ne_zero c.in_err-factors_fault.field-0.0 in
    let s : number_of c.from_residual-in_err-factors_fault.result ≡ number c.in_err-factors_fault.field-0.0 = search rules in
    let q = c.in_err-factors_fault.ensures a.u.now f.of_u (record { at = λ i h x p. search rules }) in
    rw s (refuses a.n (duals a.u.now a.v.now a.cmax.now) a.row_exponents.now a.column_exponents.now
    (answer_second c.in_ok-size_fault.ensures refl (answer_first _ q e)) e)

-- a column's factor is the difference there
difference : (v cmax : List Float) → length cmax ≡ length v → (j : ℕ) → j < length (differences v cmax) → {x : Float}
    → x ≡ sub binary64 (get_or v j nan) (get_or cmax j nan) → x ≡ get_or (differences v cmax) j nan
difference v cmax e j h d = d ∙ sym (difference_at v cmax e j (omega (arith, differences_length v cmax e)))

pub returns-in_err-factors_fault-2 : goal.returns-in_err-factors_fault-2
unfolding exponents_fault lengths_fit
returns-in_err-factors_fault-2 c =
    let a = c.args in
    let at = goal.at.returns-in_err-factors_fault-2 c in
    let f = fit at.In_ok-size_fault in
    let n = f.of_cmax ∙ sym f.of_v in
    let e = number_ne_zero c.in_err-factors_fault-2.field-0.0 in
    let s : number_of c.from_residual-in_err-factors_fault-2.result ≡ number c.in_err-factors_fault-2.field-0.0 = search rules in
    let q = c.in_err-factors_fault-2.ensures (differences a.v.now a.cmax.now) (differences_length a.v.now a.cmax.now n ∙ f.of_v)
    (record { at = λ j h x p. difference a.v.now a.cmax.now n j h (search rules) }) in
    rw s (refuses a.n (duals a.u.now a.v.now a.cmax.now) a.row_exponents.now a.column_exponents.now
    (answer_second c.in_ok-size_fault.ensures refl (answer_second (no-row-fault at.In_ok-factors_fault f.of_u) refl q)) e)

pub returns : goal.returns
unfolding exponents_fault lengths_fit
returns c =
    let a = c.args in
    let at = goal.at.returns c in
    let f = fit at.In_ok-size_fault in
    let n = f.of_cmax ∙ sym f.of_v in
    let rows = no-row-fault at.In_ok-factors_fault f.of_u in
    let d = differences a.v.now a.cmax.now in
    let l : length d ≡ a.n = differences_length a.v.now a.cmax.now n ∙ f.of_v in
    let columns = c.in_ok-factors_fault-2.ensures d l (record { at = λ j h x p. difference a.v.now a.cmax.now n j h (search rules) }) in
    accepts a.n (duals a.u.now a.v.now a.cmax.now) a.row_exponents.now a.column_exponents.now
    (or-none (sym c.in_ok-size_fault.ensures) ∙ or-none (sym rows) ∙ sym columns)
    (c.write_exponents.ensures a.u.now (f.of_u ∙ sym f.of_rows) (record { at = λ i h x p. search rules }) (sym rows))
    (c.write_exponents-2.ensures d (l ∙ sym f.of_columns) (record { at = λ j h x p. difference a.v.now a.cmax.now n j h (search rules) }) (sym columns))
