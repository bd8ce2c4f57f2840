-- `check_largest` meets its contract: it refuses by the first fault, or writes the marks of the search; the clauses follow of any answer.
use Rattle.std.proofs.Common.{◌≡◌, ℕ, [], ◌∷◌, refl, sym, ap, ◌∙◌, rules, arith}
use Rattle.refusal.specs.Number.{number, number_of}
use Rattle.refusal.proofs.Numbers.{number_ne_zero}
use Rattle.slices.proofs.Lists.{only}
use Rattle.match_largest.specs.Call.{slices}
use Rattle.match_largest.proofs.Calls.{pointers_fit, by_shape, fit, shape_is, by_pairing, rows_below_lem, found, all_promised}
use Rattle.match_largest.proofs.check_largest.Goals as goal

pub pattern_fault-requires : goal.pattern_fault-requires
pattern_fault-requires c = let a = c.args in
    pointers_fit a.n a.col_ptr.now a.row_idx.now a.perm.now (slices a.columns.now a.rows.now a.matched.now) c.lengths_fit-lengths.ensures

pub returns-in_err-pattern_fault : goal.returns-in_err-pattern_fault
returns-in_err-pattern_fault c =
    let same : number_of c.from_residual.result ≡ number c.in_err-pattern_fault.field-0.0 = search rules in
    rw same (all_promised _ _ _ (by_shape _ _ _ _ _ c.lengths_fit-lengths.ensures c.in_err-pattern_fault.ensures (number_ne_zero _)))

pub pairing_fault-requires-clause-accepted_pattern_1 : goal.pairing_fault-requires-clause-accepted_pattern_1
pairing_fault-requires-clause-accepted_pattern_1 c = let a = c.args in
    shape_is _ _ _ a.perm.now (slices a.columns.now a.rows.now a.matched.now) c.lengths_fit-lengths.ensures
    c.in_ok-pattern_fault.ensures refl

pub pairing_fault-requires-clause-accepted_pattern_2 : goal.pairing_fault-requires-clause-accepted_pattern_2
pairing_fault-requires-clause-accepted_pattern_2 c = let a = c.args in
    (fit _ _ a.row_idx.now _ (slices a.columns.now a.rows.now a.matched.now) c.lengths_fit-lengths.ensures
    c.in_ok-pattern_fault.ensures refl).places

pub returns-in_err-pairing_fault : goal.returns-in_err-pairing_fault
returns-in_err-pairing_fault c =
    let same : number_of c.from_residual-in_err-pairing_fault.result ≡ number c.in_err-pairing_fault.field-0.0 = search rules in
    rw same (all_promised _ _ _ (by_pairing _ _ _ _ _ c.lengths_fit-lengths.ensures c.in_ok-pattern_fault.ensures refl
    c.in_err-pairing_fault.ensures.result_value (number_ne_zero _)))

pub write_columns-requires-clause-columns_len : goal.write_columns-requires-clause-columns_len
write_columns-requires-clause-columns_len c = let a = c.args in
    let f = fit _ _ a.row_idx.now a.perm.now (slices a.columns.now a.rows.now a.matched.now) c.lengths_fit-lengths.ensures
    c.in_ok-pattern_fault.ensures refl in
    (f.room.columns ∙ sym f.places, (c.in_ok-pairing_fault.ensures.fact refl).marks)

pub write_columns-requires-clause-by_index : goal.write_columns-requires-clause-by_index
write_columns-requires-clause-by_index c = let a = c.args in
    rows_below_lem _ _ _ _ (slices a.columns.now a.rows.now a.matched.now) c.lengths_fit-lengths.ensures
    c.in_ok-pattern_fault.ensures refl c.in_ok-pairing_fault.ensures.result_value refl

pub write_rows-requires : goal.write_rows-requires
write_rows-requires c = let a = c.args in
    let s = slices a.columns.now a.rows.now a.matched.now in
    let f = fit _ _ a.row_idx.now a.perm.now s c.lengths_fit-lengths.ensures c.in_ok-pattern_fault.ensures refl in
    let x = shape_is _ _ _ a.perm.now s c.lengths_fit-lengths.ensures c.in_ok-pattern_fault.ensures refl in
    (omega (arith, f.room.rows, x.few), (c.in_ok-pairing_fault.ensures.fact refl).marks)

pub count_pairs-requires : goal.count_pairs-requires
count_pairs-requires c = let a = c.args in
    let s = slices a.columns.now a.rows.now a.matched.now in
    let f = fit _ _ a.row_idx.now a.perm.now s c.lengths_fit-lengths.ensures c.in_ok-pattern_fault.ensures refl in
    let x = shape_is _ _ _ a.perm.now s c.lengths_fit-lengths.ensures c.in_ok-pattern_fault.ensures refl in
    omega (arith, f.places, x.few)

pub bounds-matched-0 : goal.bounds-matched-0
bounds-matched-0 c = let a = c.args in
    let f = fit _ _ a.row_idx.now a.perm.now (slices a.columns.now a.rows.now a.matched.now) c.lengths_fit-lengths.ensures
    c.in_ok-pattern_fault.ensures refl in
    omega (arith, f.room.matched)

pub returns : goal.returns
returns c =
    let a = c.args in
    let s = slices a.columns.now a.rows.now a.matched.now in
    let f = fit _ _ a.row_idx.now a.perm.now s c.lengths_fit-lengths.ensures c.in_ok-pattern_fault.ensures refl in
    all_promised _ _ s (found _ _ _ _ s c.lengths_fit-lengths.ensures c.in_ok-pattern_fault.ensures refl
    c.in_ok-pairing_fault.ensures.result_value refl (c.in_ok-pairing_fault.ensures.fact refl)
    c.write_columns.ensures c.write_rows.ensures
    (only a.matched.now c.count_pairs.result f.room.matched ∙ ap (λ (m : ℕ). m ∷ []) c.count_pairs.ensures))
