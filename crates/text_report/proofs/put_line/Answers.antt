-- `put_line` meets its contract: the four numbers one after the other, each after the one before.
use Rattle.std.proofs.Common.{refl, ap, ℕ, length, arith}
use Rattle.text_report.specs.Decimal.{decimal}
use Rattle.text_report.specs.Report.{spaced, pair_line}
use Rattle.text_report.proofs.Writes.{and_then, byte_last, restated}
use Rattle.text_report.proofs.Lines.{pair_length}
use Rattle.text_report.proofs.put_line.Goals as goal

pub put_decimal-after_k-requires : goal.put_decimal-after_k-requires
put_decimal-after_k-requires c = omega (arith, pair_length c.args.k c.args.row c.args.u c.args.v)

pub put_spaced-after_row-requires : goal.put_spaced-after_row-requires
put_spaced-after_row-requires c = omega (arith, pair_length c.args.k c.args.row c.args.u c.args.v, ap (λ (r : ℕ). length (decimal r)) c.row_number.ensures)

pub put_spaced_whole-after_u-requires-clause-x_in_bounds : goal.put_spaced_whole-after_u-requires-clause-x_in_bounds
put_spaced_whole-after_u-requires-clause-x_in_bounds c =
    omega (arith, pair_length c.args.k c.args.row c.args.u c.args.v, ap (λ (r : ℕ). length (decimal r)) c.row_number.ensures)

pub put_spaced_whole-last-requires-clause-x_in_bounds : goal.put_spaced_whole-last-requires-clause-x_in_bounds
put_spaced_whole-last-requires-clause-x_in_bounds c =
    omega (arith, pair_length c.args.k c.args.row c.args.u c.args.v, ap (λ (r : ℕ). length (decimal r)) c.row_number.ensures)

pub bounds-out-last : goal.bounds-out-last
bounds-out-last c = omega (arith, pair_length c.args.k c.args.row c.args.u c.args.v, ap (λ (r : ℕ). length (decimal r)) c.row_number.ensures)

pub overflow_add-result : goal.overflow_add-result
overflow_add-result c = omega (arith, pair_length c.args.k c.args.row c.args.u c.args.v, ap (λ (r : ℕ). length (decimal r)) c.row_number.ensures)

pub returns : goal.returns
unfolding pair_line
returns c =
    let row = restated (ap (λ (r : ℕ). spaced (decimal r)) c.row_number.ensures) refl c.put_spaced-after_row.ensures in
    byte_last 10
    (and_then (and_then (and_then c.put_decimal-after_k.ensures row) c.put_spaced_whole-after_u.ensures) c.put_spaced_whole-last.ensures)
