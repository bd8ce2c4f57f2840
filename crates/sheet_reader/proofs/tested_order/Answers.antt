-- `tested_order` meets its contract: the fault of n, then that of the lengths, or n.
use Rattle.std.proofs.Common.{◌≡◌, Err, sym, ◌∙◌, rules, arith}
use Rattle.refusal.specs.Number.{number, numbered}
use Rattle.refusal.proofs.Numbers.{number_ne_zero}
use Rattle.matching.specs.Match.{match_of}
use Rattle.sheet_reader.proofs.Calls.{head_passed, order_head, order_lengths, order_taken}
use Rattle.sheet_reader.proofs.tested_order.Goals as goal

pub returns-in_err-head_fault : goal.returns-in_err-head_fault
returns-in_err-head_fault c =
    let same : numbered c.from_residual.result ≡ Err (number c.in_err-head_fault.field-0.0) = search rules in
    same ∙ order_head _ _ c.in_err-head_fault.ensures (number_ne_zero _)

pub get_two-n-requires : goal.get_two-n-requires
get_two-n-requires c = omega (arith, (head_passed c.args.sheet.now (sym c.in_ok-head_fault.ensures)).0)

pub returns-then-not-lengths_fit : goal.returns-then-not-lengths_fit
returns-then-not-lengths_fit c = let a = c.args in
    order_lengths a.sheet.now (match_of a.perm.now a.u.now a.v.now a.cmax.now) (sym c.in_ok-head_fault.ensures)
    c.get_two-n.ensures c.lengths_fit.ensures c.if-not-lengths_fit.true

pub returns : goal.returns
returns c = let a = c.args in
    order_taken a.sheet.now (match_of a.perm.now a.u.now a.v.now a.cmax.now) (sym c.in_ok-head_fault.ensures)
    c.get_two-n.ensures c.lengths_fit.ensures c.if-not-lengths_fit.false
