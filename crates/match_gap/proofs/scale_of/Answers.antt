-- `scale_of` meets its contract: its test is the definition's.
use Rattle.std.proofs.Common.{sym}
use Rattle.match_gap.proofs.Shifts.{small_digits, large_digits}
use Rattle.match_gap.proofs.scale_of.Goals as goal

pub returns-then-bits-lt-NORMAL : goal.returns-then-bits-lt-NORMAL
returns-then-bits-lt-NORMAL c = sym (small_digits c.args.bits c.if-bits-lt-NORMAL.true).1

pub returns-else-bits-lt-NORMAL : goal.returns-else-bits-lt-NORMAL
returns-else-bits-lt-NORMAL c = sym (large_digits c.args.bits c.if-bits-lt-NORMAL.false).1
