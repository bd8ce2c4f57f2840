-- `test_canonical` meets its contract: each turn passes a record, or answers its first fault.
use Rattle.std.proofs.Common.{◌≡◌, refl, sym, ◌∙◌, rules, arith}
use Rattle.refusal.specs.Number.{number, number_of}
use Rattle.refusal.proofs.Numbers.{number_ne_zero}
use Rattle.sheet.proofs.Lengths.{size_least}
use Rattle.sheet.proofs.Records.{first_says}
use Rattle.sheet_reader.proofs.Tested.{first-at, size_within, patch_below, cut_number, canonical_end, canonical_cut}
use Rattle.sheet_reader.proofs.Tested.{canonical_index, canonical_fault_lem, canonical_passed}
use Rattle.sheet_reader.proofs.test_canonical.Goals as goal

pub returns-in_err-r : goal.returns-in_err-r
returns-in_err-r c =
    let a = c.args in
    let l = c.loop-at in
    let same : number_of c.from_residual.result ≡ number c.in_err-r.field-0.0 = search rules in
    let cut = first-at a.sheet.now l.at c.first_record.ensures c.in_err-r.ensures.ok_part in
    same ∙ cut_number c.in_err-r.ensures.value c.in_err-r.ensures.ok_part
    ∙ sym (l.invariant.fault ∙ canonical_cut a.n a.sheet.now l.next l.at c.loop-at-test.true cut)

pub returns-in_err-index_fault : goal.returns-in_err-index_fault
returns-in_err-index_fault c =
    let a = c.args in
    let l = c.loop-at in
    let same : number_of c.from_residual-in_err-index_fault.result ≡ number c.in_err-index_fault.field-0.0 = search rules in
    let here = first-at a.sheet.now l.at c.first_record.ensures c.in_ok-r.ensures.ok_part in
    same ∙ sym (l.invariant.fault ∙ canonical_index a.n a.sheet.now l.next l.at c.in_ok-r.r c.loop-at-test.true here
    c.in_err-index_fault.ensures (number_ne_zero _))

pub returns-in_err-canonical_fault : goal.returns-in_err-canonical_fault
returns-in_err-canonical_fault c =
    let a = c.args in
    let l = c.loop-at in
    let same : number_of c.from_residual-in_err-canonical_fault.result ≡ number c.in_err-canonical_fault.field-0.0 = search rules in
    let here = first-at a.sheet.now l.at c.first_record.ensures c.in_ok-r.ensures.ok_part in
    same ∙ sym (l.invariant.fault ∙ canonical_fault_lem a.n a.sheet.now l.next l.at c.in_ok-r.r c.loop-at-test.true here
    c.in_ok-index_fault.ensures refl c.in_err-canonical_fault.ensures (number_ne_zero _))

pub overflow_add-next : goal.overflow_add-next
overflow_add-next c = omega (arith, patch_below c.args.n c.in_ok-r.r (sym c.in_ok-index_fault.ensures), c.requires)

pub overflow_add-at : goal.overflow_add-at
overflow_add-at c =
    let a = c.args in
    let here = first-at a.sheet.now c.loop-at.at c.first_record.ensures c.in_ok-r.ensures.ok_part in
    omega (arith, size_within a.sheet.now c.loop-at.at c.in_ok-r.r c.loop-at-test.true here, first_says _ c.in_ok-r.r here)

pub loop-at-smaller : goal.loop-at-smaller
loop-at-smaller c =
    let a = c.args in
    let here = first-at a.sheet.now c.loop-at.at c.first_record.ensures c.in_ok-r.ensures.ok_part in
    omega (
      arith,
      size_within a.sheet.now c.loop-at.at c.in_ok-r.r c.loop-at-test.true here,
      first_says _ c.in_ok-r.r here,
      size_least c.in_ok-r.r.bits,
    )

pub loop-at-preserved : goal.loop-at-preserved
loop-at-preserved c =
    let a = c.args in
    let l = c.loop-at in
    let here = first-at a.sheet.now l.at c.first_record.ensures c.in_ok-r.ensures.ok_part in
    let p = canonical_passed a.n a.sheet.now l.next l.at c.in_ok-r.r c.loop-at-test.true here c.in_ok-index_fault.ensures refl
    c.in_ok-canonical_fault.ensures refl in
    record { after_n = omega (arith, l.invariant.after_n); fault = rw (first_says _ c.in_ok-r.r here) (l.invariant.fault ∙ p) }

pub returns : goal.returns
returns c = let a = c.args in let l = c.loop-at in
    sym (l.invariant.fault ∙ canonical_end a.n a.sheet.now l.next l.at c.loop-at-test.false)
