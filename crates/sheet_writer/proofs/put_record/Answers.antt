-- `put_record` meets its contract: its parts one after the other.
use Rattle.std.proofs.Common.{◌/◌, ◌%◌, arith}
use lib.ListN.{length-set}
use Rattle.byte_numbers.proofs.Words.{bytes_length}
use Rattle.text_report.proofs.Writes.{and_then, byte_first}
use Rattle.sheet.specs.Format.{record_bytes}
use Rattle.sheet.proofs.Lengths.{part_length}
use Rattle.sheet_writer.proofs.put_record.Goals as goal

pub bounds-out-map : goal.bounds-out-map
bounds-out-map c = let m = c.put_two-map in omega (arith, m.ensures.place, bytes_length 2 c.args.r.patch, m.auto.out)

pub overflow_add-map : goal.overflow_add-map
overflow_add-map c = let m = c.put_two-map in omega (arith, m.ensures.place, bytes_length 2 c.args.r.patch, m.auto.out)

pub put_row-row-requires : goal.put_row-row-requires
put_row-row-requires c = let m = c.put_two-map in
    simp length-set (omega (arith, m.ensures.place, bytes_length 2 c.args.r.patch, m.auto.out))

pub put_long-u-requires : goal.put_long-u-requires
put_long-u-requires c = let m = c.put_two-map in let r = c.args.r in
    omega (
      arith,
      m.ensures.place,
      bytes_length 2 r.patch,
      m.auto.out,
      c.put_row-row.ensures.place,
      part_length (r.bits % 2) 2 r.row (omega arith),
      simp length-set at c.put_row-row.auto.out,
    )

pub put_long-v-requires : goal.put_long-v-requires
put_long-v-requires c = let m = c.put_two-map in let r = c.args.r in
    omega (
      arith,
      m.ensures.place,
      bytes_length 2 r.patch,
      m.auto.out,
      c.put_row-row.ensures.place,
      part_length (r.bits % 2) 2 r.row (omega arith),
      simp length-set at c.put_row-row.auto.out,
      c.put_long-u.ensures.place,
      part_length (r.bits / 2 % 2) 8 r.u (omega arith),
      c.put_long-u.auto.out,
    )

pub put_long-requires : goal.put_long-requires
put_long-requires c = let m = c.put_two-map in let r = c.args.r in
    omega (
      arith,
      m.ensures.place,
      bytes_length 2 r.patch,
      m.auto.out,
      c.put_row-row.ensures.place,
      part_length (r.bits % 2) 2 r.row (omega arith),
      simp length-set at c.put_row-row.auto.out,
      c.put_long-u.ensures.place,
      part_length (r.bits / 2 % 2) 8 r.u (omega arith),
      c.put_long-u.auto.out,
      c.put_long-v.ensures.place,
      part_length (r.bits / 4 % 2) 8 r.v (omega arith),
      c.put_long-v.auto.out,
    )

pub returns : goal.returns
unfolding record_bytes
returns c = and_then c.put_two-map.ensures
    (byte_first c.args.r.bits
    (and_then c.put_row-row.ensures
    (and_then c.put_long-u.ensures
    (and_then c.put_long-v.ensures c.put_long.ensures))))
