-- `put_row` meets its contract: by its bit.
use Rattle.sheet_writer.proofs.Writing.{part_none, part_there}
use Rattle.sheet_writer.proofs.put_row.Goals as goal

pub returns-then-bit-eq0 : goal.returns-then-bit-eq0
returns-then-bit-eq0 c = part_none _ 2 _ c.if-bit-eq0.true

pub returns : goal.returns
returns c = part_there _ 2 _ c.if-bit-eq0.false c.put_two.ensures
