-- `take_number` meets its contract: absent, cut or there.
use Rattle.std.proofs.Common.{arith}
use Rattle.sheet.proofs.Fields.{taken_absent, taken_short, taken_there}
use Rattle.sheet.proofs.take_number.Goals as goal

pub returns-then-bit-eq0 : goal.returns-then-bit-eq0
returns-then-bit-eq0 c = taken_absent 0 8 _ _ _ c.if-bit-eq0.true (omega arith)

pub returns-then-bytes-at : goal.returns-then-bytes-at
returns-then-bytes-at c = taken_short 0 8 _ _ _ (omega arith) (omega arith)

pub returns : goal.returns
returns c = taken_there 0 8 _ _ _ (omega arith) (omega arith) c.get_u64.ensures
