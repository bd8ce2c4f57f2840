-- `fill_match` meets its contract: a match without a record, then every record stored.
use Rattle.std.proofs.Common.{refl, sym, ◌∙◌}
use Rattle.matching.specs.Match.{match_of}
use Rattle.sheet.specs.Reading.{order_of}
use Rattle.sheet_reader.proofs.Storing.{lengths_are, body_inside, blank_stored}
use Rattle.sheet_reader.proofs.fill_match.Goals as goal

pub store_records-requires-clause-inside : goal.store_records-requires-clause-inside
store_records-requires-clause-inside c =
    let a = c.args in
    let h = lengths_are (order_of a.sheet.now) (match_of a.perm.now a.u.now a.v.now a.cmax.now) c.requires.cmax_value in
    rw (c.fill.auto.list ∙ h.perm) (body_inside a.sheet.now c.requires.sheet_value)

pub store_records-requires-clause-u_len : goal.store_records-requires-clause-u_len
store_records-requires-clause-u_len c =
    let a = c.args in
    let h = lengths_are (order_of a.sheet.now) (match_of a.perm.now a.u.now a.v.now a.cmax.now) c.requires.cmax_value in
    c.fill-2.auto.list ∙ h.u ∙ sym (c.fill.auto.list ∙ h.perm)

pub store_records-requires-clause-v_len : goal.store_records-requires-clause-v_len
store_records-requires-clause-v_len c =
    let a = c.args in
    let h = lengths_are (order_of a.sheet.now) (match_of a.perm.now a.u.now a.v.now a.cmax.now) c.requires.cmax_value in
    c.fill-3.auto.list ∙ h.v ∙ sym (c.fill.auto.list ∙ h.perm)

pub store_records-requires-clause-cmax_len : goal.store_records-requires-clause-cmax_len
store_records-requires-clause-cmax_len c =
    let a = c.args in
    let h = lengths_are (order_of a.sheet.now) (match_of a.perm.now a.u.now a.v.now a.cmax.now) c.requires.cmax_value in
    c.fill-4.auto.list ∙ h.cmax ∙ sym (c.fill.auto.list ∙ h.perm)

pub returns : goal.returns
returns c =
    let a = c.args in
    let h = lengths_are (order_of a.sheet.now) (match_of a.perm.now a.u.now a.v.now a.cmax.now) c.requires.cmax_value in
    c.store_records.ensures ∙ blank_stored a.sheet.now _ _ _ _ (c.fill.ensures ∙ rw h.perm refl)
    (c.fill-2.ensures ∙ rw h.u refl) (c.fill-3.ensures ∙ rw h.v refl) (c.fill-4.ensures ∙ rw h.cmax refl)
