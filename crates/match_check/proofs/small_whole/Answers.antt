-- `small_whole` meets its contract: its comparisons are the test of wholeness and size.
use Rattle.std.proofs.Common.{rules}
use Rattle.match_check.proofs.Wholes.{test_is}
use Rattle.match_check.proofs.small_whole.Goals as goal

pub returns : goal.returns
returns c = test_is c.args.x (search rules)
