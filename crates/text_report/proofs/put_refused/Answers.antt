-- `put_refused` meets its contract: the word, the number of at most ten digits, the line feed.
use Rattle.std.proofs.Common.{refl, ap, ℕ, length, arith}
use Rattle.text_report.specs.Decimal.{decimal}
use Rattle.text_report.specs.Report.{refused_text}
use Rattle.text_report.proofs.Digits.{decimal_length}
use Rattle.text_report.proofs.Writes.{and_then, byte_last, from_start, restated}
use Rattle.text_report.proofs.put_refused.Goals as goal

pub put_decimal-last-requires : goal.put_decimal-last-requires
put_decimal-last-requires c = rw c.from.ensures (omega (arith, decimal_length 9 c.args.number (omega arith)))

pub bounds-out-last : goal.bounds-out-last
bounds-out-last c = omega (arith, ap (λ (n : ℕ). length (decimal n)) c.from.ensures, decimal_length 9 c.args.number (omega arith))

pub overflow_add-result : goal.overflow_add-result
overflow_add-result c = omega (arith, ap (λ (n : ℕ). length (decimal n)) c.from.ensures, decimal_length 9 c.args.number (omega arith))

pub returns : goal.returns
unfolding refused_text
returns c =
    let done = from_start (byte_last 10 (and_then c.put_bytes-after_word.ensures (restated (ap decimal c.from.ensures) refl c.put_decimal-last.ensures))) in
    record {
      text = done.0;
      length = done.1;
      fits = omega (arith, ap (λ (n : ℕ). length (decimal n)) c.from.ensures, decimal_length 9 c.args.number (omega arith));
    }
