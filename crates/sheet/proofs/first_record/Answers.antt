-- `first_record` meets its contract: cut where one of its fields is, or the record that the fields make.
use Rattle.std.proofs.Common.{refl, ◌∙◌, arith}
use Rattle.limits.specs.Limits.{none}
use Rattle.sheet.proofs.Fields.{first_cut, first_made, field_taken, field_cut}
use Rattle.sheet.proofs.first_record.Goals as goal

pub returns-then-bytes-lt3 : goal.returns-then-bytes-lt3
returns-then-bytes-lt3 c = first_cut _ (omega arith)

pub returns-in_err-row : goal.returns-in_err-row
returns-in_err-row c =
    c.from_residual.ensures ∙ first_cut _ (omega (arith, field_cut none 2 _ _ c.take_row.ensures refl c.in_err-row.was))

pub take_number-requires-clause-at_in_bounds : goal.take_number-requires-clause-at_in_bounds
take_number-requires-clause-at_in_bounds c =
    let r = field_taken none 2 _ _ c.take_row.ensures refl c.in_ok-row.was in
    omega (arith, r.place, r.within)

pub returns-in_err-u : goal.returns-in_err-u
returns-in_err-u c =
    let r = field_taken none 2 _ _ c.take_row.ensures refl c.in_ok-row.was in
    c.from_residual-in_err-u.ensures
    ∙ first_cut _ (omega (arith, field_cut 0 8 _ _ c.take_number.ensures r.place c.in_err-u.was))

pub take_number-requires-2-clause-at_in_bounds : goal.take_number-requires-2-clause-at_in_bounds
take_number-requires-2-clause-at_in_bounds c =
    let r = field_taken none 2 _ _ c.take_row.ensures refl c.in_ok-row.was in
    let u = field_taken 0 8 _ _ c.take_number.ensures r.place c.in_ok-u.was in
    omega (arith, u.place, u.within)

pub returns-in_err-v : goal.returns-in_err-v
returns-in_err-v c =
    let r = field_taken none 2 _ _ c.take_row.ensures refl c.in_ok-row.was in
    let u = field_taken 0 8 _ _ c.take_number.ensures r.place c.in_ok-u.was in
    c.from_residual-in_err-v.ensures
    ∙ first_cut _ (omega (arith, field_cut 0 8 _ _ c.take_number-2.ensures u.place c.in_err-v.was))

pub take_number-requires-3-clause-at_in_bounds : goal.take_number-requires-3-clause-at_in_bounds
take_number-requires-3-clause-at_in_bounds c =
    let r = field_taken none 2 _ _ c.take_row.ensures refl c.in_ok-row.was in
    let u = field_taken 0 8 _ _ c.take_number.ensures r.place c.in_ok-u.was in
    let v = field_taken 0 8 _ _ c.take_number-2.ensures u.place c.in_ok-v.was in
    omega (arith, v.place, v.within)

pub returns-in_err-cmax : goal.returns-in_err-cmax
returns-in_err-cmax c =
    let r = field_taken none 2 _ _ c.take_row.ensures refl c.in_ok-row.was in
    let u = field_taken 0 8 _ _ c.take_number.ensures r.place c.in_ok-u.was in
    let v = field_taken 0 8 _ _ c.take_number-2.ensures u.place c.in_ok-v.was in
    c.from_residual-in_err-cmax.ensures
    ∙ first_cut _ (omega (arith, field_cut 0 8 _ _ c.take_number-3.ensures v.place c.in_err-cmax.was))

pub returns : goal.returns
returns c =
    let r = field_taken none 2 _ _ c.take_row.ensures refl c.in_ok-row.was in
    let u = field_taken 0 8 _ _ c.take_number.ensures r.place c.in_ok-u.was in
    let v = field_taken 0 8 _ _ c.take_number-2.ensures u.place c.in_ok-v.was in
    let w = field_taken 0 8 _ _ c.take_number-3.ensures v.place c.in_ok-cmax.was in
    first_made _ c.get_two.ensures r.value u.value v.value w.value w.place w.within
