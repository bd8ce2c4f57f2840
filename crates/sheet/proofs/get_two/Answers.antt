-- `get_two` meets its contract: the low byte first.
use Rattle.sheet.proofs.Fields.{two_is}
use Rattle.sheet.proofs.get_two.Goals as goal

pub returns : goal.returns
returns c = two_is c.args.bytes.now c.args.at
