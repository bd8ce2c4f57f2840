-- `put_matched_line` meets its contract: the parts one after the other, each after the one before.
use Rattle.std.proofs.Common.{arith}
use Rattle.text_report.specs.Report.{matched_line}
use Rattle.text_report.proofs.Writes.{and_then, byte_last}
use Rattle.text_report.proofs.Lines.{matched_length}
use Rattle.text_report.proofs.put_matched_line.Goals as goal

pub put_bytes-after_word-requires : goal.put_bytes-after_word-requires
put_bytes-after_word-requires c = omega (arith, matched_length c.args.pairs c.args.n)

pub put_decimal-after_pairs-requires : goal.put_decimal-after_pairs-requires
put_decimal-after_pairs-requires c = omega (arith, matched_length c.args.pairs c.args.n)

pub put_bytes-after_of-requires : goal.put_bytes-after_of-requires
put_bytes-after_of-requires c = omega (arith, matched_length c.args.pairs c.args.n)

pub put_decimal-last-requires : goal.put_decimal-last-requires
put_decimal-last-requires c = omega (arith, matched_length c.args.pairs c.args.n)

pub bounds-out-last : goal.bounds-out-last
bounds-out-last c = omega (arith, matched_length c.args.pairs c.args.n)

pub overflow_add-result : goal.overflow_add-result
overflow_add-result c = omega (arith, matched_length c.args.pairs c.args.n)

pub returns : goal.returns
unfolding matched_line
returns c =
    byte_last 10
    (and_then (and_then (and_then c.put_bytes-after_word.ensures c.put_decimal-after_pairs.ensures) c.put_bytes-after_of.ensures) c.put_decimal-last.ensures)
