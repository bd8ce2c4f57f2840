-- `write_sheet` meets its contract: the tests in their order, then the file.
use Rattle.std.proofs.Common.{◌≡◌, Err, refl, sym, ◌∙◌, rules, arith}
use Rattle.refusal.specs.Number.{number, numbered}
use Rattle.refusal.proofs.Numbers.{number_ne_zero}
use Rattle.matching.specs.Match.{match_of}
use Rattle.sheet.proofs.Lengths.{sheet_length}
use Rattle.sheet_writer.proofs.Writing.{lengths_are}
use Rattle.sheet_writer.proofs.Calls.{sizes_passed, sizes_refuse, match_refuses, writes}
use Rattle.sheet_writer.proofs.write_sheet.Goals as goal

pub returns-in_err-size_fault : goal.returns-in_err-size_fault
returns-in_err-size_fault c =
    let a = c.args in
    let same : numbered c.from_residual.result ≡ Err (number c.in_err-size_fault.field-0.0) = search rules in
    rw same (sizes_refuse a.n a.matched (match_of a.perm.now a.u.now a.v.now a.cmax.now) a.sheet.now c.lengths_fit-fit.ensures
    c.in_err-size_fault.ensures (number_ne_zero _))

pub match_fault-requires : goal.match_fault-requires
match_fault-requires c =
    let a = c.args in
    let s = sizes_passed a.n c.lengths_fit-fit.result (sym c.in_ok-size_fault.ensures) in
    omega (
      arith,
      s.0,
      (lengths_are a.n (match_of a.perm.now a.u.now a.v.now a.cmax.now) a.sheet.now
          (sym c.lengths_fit-fit.ensures ∙ s.1)).perm,
    )

pub returns-in_err-match_fault : goal.returns-in_err-match_fault
returns-in_err-match_fault c =
    let a = c.args in
    let same : numbered c.from_residual-in_err-match_fault.result ≡ Err (number c.in_err-match_fault.field-0.0) = search rules in
    rw same (match_refuses a.n a.matched (match_of a.perm.now a.u.now a.v.now a.cmax.now) a.sheet.now c.lengths_fit-fit.ensures
    c.in_ok-size_fault.ensures refl c.in_err-match_fault.ensures (number_ne_zero _))

pub put_sheet-requires-clause-n_le_max_columns : goal.put_sheet-requires-clause-n_le_max_columns
put_sheet-requires-clause-n_le_max_columns c = (sizes_passed c.args.n c.lengths_fit-fit.result (sym c.in_ok-size_fault.ensures)).0

pub put_sheet-requires-clause-out_value : goal.put_sheet-requires-clause-out_value
put_sheet-requires-clause-out_value c =
    sym c.lengths_fit-fit.ensures ∙ (sizes_passed c.args.n c.lengths_fit-fit.result (sym c.in_ok-size_fault.ensures)).1

pub overflow_cast-result : goal.overflow_cast-result
overflow_cast-result c = let a = c.args in
    omega (
      arith,
      c.put_sheet.ensures.place,
      sheet_length a.n (match_of a.perm.now a.u.now a.v.now a.cmax.now),
      (sizes_passed a.n c.lengths_fit-fit.result (sym c.in_ok-size_fault.ensures)).0,
    )

pub returns : goal.returns
returns c =
    let a = c.args in
    writes a.n a.matched (match_of a.perm.now a.u.now a.v.now a.cmax.now) a.sheet.now c.lengths_fit-fit.ensures
    c.in_ok-size_fault.ensures refl c.in_ok-match_fault.ensures refl
    (λ i. omega (arith, c.type_inv.u i)) (λ i. omega (arith, c.type_inv.v i)) (λ i. omega (arith, c.type_inv.cmax i))
    c.put_sheet.ensures
