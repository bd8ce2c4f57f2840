-- `read_sheet` meets its contract: the tests in their order, then the match, and what follows from it for a file of bytes.
use Rattle.std.proofs.Common.{◌≡◌, Err, sym, ◌∙◌, rules, arith}
use Rattle.refusal.specs.Number.{number, numbered}
use Rattle.refusal.proofs.Numbers.{number_ne_zero}
use Rattle.matching.specs.Match.{match_of}
use Rattle.sheet.specs.Reading.{body_fault}
use Rattle.sheet_reader.proofs.Storing.{lengths_are}
use Rattle.sheet_reader.proofs.Calls.{head_passed, body_is, ordered, order_refuses, records_refuse, reads}
use Rattle.sheet_reader.proofs.Theorems.{read_clauses}
use Rattle.sheet_reader.proofs.read_sheet.Goals as goal

pub returns-in_err-n : goal.returns-in_err-n
returns-in_err-n c =
    let a = c.args in
    let before = match_of a.perm.now a.u.now a.v.now a.cmax.now in
    let same : numbered c.from_residual.result ≡ Err (number c.in_err-n.field-0.0) = search rules in
    rw same (read_clauses _ _ (order_refuses (body_fault a.sheet.now) a.sheet.now before c.in_err-n.ensures (number_ne_zero _))
    (λ i. omega (arith, c.type_inv.sheet i)))

pub records_fault-requires : goal.records_fault-requires
records_fault-requires c =
    let a = c.args in
    let o = ordered a.sheet.now (match_of a.perm.now a.u.now a.v.now a.cmax.now) c.in_ok-n.ensures in
    omega (arith, (head_passed a.sheet.now o.head).1, o.order)

pub returns-in_err-records_fault : goal.returns-in_err-records_fault
returns-in_err-records_fault c =
    let a = c.args in
    let before = match_of a.perm.now a.u.now a.v.now a.cmax.now in
    let o = ordered a.sheet.now before c.in_ok-n.ensures in
    let same : numbered c.from_residual-in_err-records_fault.result ≡ Err (number c.in_err-records_fault.field-0.0) = search rules in
    rw same (read_clauses _ _ (records_refuse (body_fault a.sheet.now) a.sheet.now before o
    (c.in_err-records_fault.ensures ∙ body_is a.sheet.now o.order) (number_ne_zero _)) (λ i. omega (arith, c.type_inv.sheet i)))

pub fill_match-requires-clause-sheet_value : goal.fill_match-requires-clause-sheet_value
fill_match-requires-clause-sheet_value c =
    let a = c.args in
    let o = ordered a.sheet.now (match_of a.perm.now a.u.now a.v.now a.cmax.now) c.in_ok-n.ensures in
    sym (c.in_ok-records_fault.ensures ∙ body_is a.sheet.now o.order)

pub fill_match-requires-clause-cmax_value : goal.fill_match-requires-clause-cmax_value
fill_match-requires-clause-cmax_value c =
    let a = c.args in
    let o = ordered a.sheet.now (match_of a.perm.now a.u.now a.v.now a.cmax.now) c.in_ok-n.ensures in
    rw (← o.order) o.fit

pub rows_present-requires : goal.rows_present-requires
rows_present-requires c =
    let a = c.args in
    let before = match_of a.perm.now a.u.now a.v.now a.cmax.now in
    let o = ordered a.sheet.now before c.in_ok-n.ensures in
    omega (arith, c.fill_match.auto.perm, (lengths_are c.in_ok-n.n before o.fit).perm, (head_passed a.sheet.now o.head).1, o.order)

pub returns : goal.returns
returns c =
    let a = c.args in
    let before = match_of a.perm.now a.u.now a.v.now a.cmax.now in
    let o = ordered a.sheet.now before c.in_ok-n.ensures in
    read_clauses _ _ (reads (body_fault a.sheet.now) a.sheet.now before o (sym (c.in_ok-records_fault.ensures ∙ body_is a.sheet.now o.order))
    c.fill_match.ensures c.rows_present.ensures) (λ i. omega (arith, c.type_inv.sheet i))
