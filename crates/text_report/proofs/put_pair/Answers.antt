-- `put_pair` meets its contract: the two numbers one after the other, each after the one before.
use Rattle.std.proofs.Common.{◌+◌, refl, ap, ℕ, length, arith}
use Rattle.text_report.specs.Decimal.{decimal}
use Rattle.text_report.specs.Report.{spaced}
use Rattle.text_report.specs.Pairs.{matched_pair}
use Rattle.text_report.proofs.Writes.{and_then, byte_last, restated}
use Rattle.text_report.proofs.Pairs.{matched_pair_length}
use Rattle.text_report.proofs.put_pair.Goals as goal

pub put_decimal-after_row-requires : goal.put_decimal-after_row-requires
put_decimal-after_row-requires c = rw c.from.ensures (omega (arith, matched_pair_length c.args.row c.args.column))

pub put_spaced-last-requires : goal.put_spaced-last-requires
put_spaced-last-requires c =
    omega (
      arith,
      matched_pair_length c.args.row c.args.column,
      ap (λ (n : ℕ). length (decimal (n + 1))) c.from.ensures,
      ap (λ (n : ℕ). length (decimal (n + 1))) c.from-2.ensures,
    )

pub bounds-out-last : goal.bounds-out-last
bounds-out-last c =
    omega (
      arith,
      matched_pair_length c.args.row c.args.column,
      ap (λ (n : ℕ). length (decimal (n + 1))) c.from.ensures,
      ap (λ (n : ℕ). length (decimal (n + 1))) c.from-2.ensures,
    )

pub overflow_add-result : goal.overflow_add-result
overflow_add-result c =
    omega (
      arith,
      matched_pair_length c.args.row c.args.column,
      ap (λ (n : ℕ). length (decimal (n + 1))) c.from.ensures,
      ap (λ (n : ℕ). length (decimal (n + 1))) c.from-2.ensures,
    )

pub returns : goal.returns
unfolding matched_pair
returns c =
    byte_last 10
    (and_then (restated (ap (λ (n : ℕ). decimal (n + 1)) c.from.ensures) refl c.put_decimal-after_row.ensures)
    (restated (ap (λ (n : ℕ). spaced (decimal (n + 1))) c.from-2.ensures) refl c.put_spaced-last.ensures))
