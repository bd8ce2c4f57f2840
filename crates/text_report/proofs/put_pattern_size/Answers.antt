-- `put_pattern_size` meets its contract: the three numbers one after the other, each after the one before.
use Rattle.std.proofs.Common.{arith}
use Rattle.text_report.specs.Pairs.{pattern_size}
use Rattle.text_report.proofs.Writes.{and_then, byte_last}
use Rattle.text_report.proofs.Pairs.{size_length}
use Rattle.text_report.proofs.put_pattern_size.Goals as goal

pub put_decimal-after_rows-requires : goal.put_decimal-after_rows-requires
put_decimal-after_rows-requires c = omega (arith, size_length c.args.n c.args.pairs)

pub put_spaced-after_columns-requires : goal.put_spaced-after_columns-requires
put_spaced-after_columns-requires c = omega (arith, size_length c.args.n c.args.pairs)

pub put_spaced-last-requires : goal.put_spaced-last-requires
put_spaced-last-requires c = omega (arith, size_length c.args.n c.args.pairs)

pub bounds-out-last : goal.bounds-out-last
bounds-out-last c = omega (arith, size_length c.args.n c.args.pairs)

pub overflow_add-result : goal.overflow_add-result
overflow_add-result c = omega (arith, size_length c.args.n c.args.pairs)

pub returns : goal.returns
unfolding pattern_size
returns c =
    byte_last 10 (and_then (and_then c.put_decimal-after_rows.ensures c.put_spaced-after_columns.ensures) c.put_spaced-last.ensures)
