-- `rising_fault` meets its contract: by its test.
use Rattle.std.proofs.Common.{arith}
use Rattle.sheet_reader.proofs.Tested.{rises_so, rises_not}
use Rattle.sheet_reader.proofs.rising_fault.Goals as goal

pub returns-then-next-r : goal.returns-then-next-r
returns-then-next-r c = rises_so c.args.next c.args.r c.if-next-r.true

pub returns : goal.returns
returns c = rises_not c.args.next c.args.r (omega (arith, c.if-next-r.false))
