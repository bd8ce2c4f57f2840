-- `take_row` meets its contract: absent, cut or there.
use Rattle.std.proofs.Common.{arith}
use Rattle.limits.specs.Limits.{none}
use Rattle.sheet.proofs.Fields.{taken_absent, taken_short, taken_there}
use Rattle.sheet.proofs.take_row.Goals as goal

pub returns-then-bit-eq0 : goal.returns-then-bit-eq0
returns-then-bit-eq0 c = taken_absent none 2 _ _ 3 c.if-bit-eq0.true (omega arith)

pub returns-then-bytes-lt5 : goal.returns-then-bytes-lt5
returns-then-bytes-lt5 c = taken_short none 2 _ _ 3 (omega arith) (omega arith)

pub returns : goal.returns
returns c = taken_there none 2 _ _ 3 (omega arith) (omega arith) c.get_two.ensures
