-- `pair_lack` meets its contract: its test is the definition's.
use Rattle.match_gap.proofs.pair_lack.Goals as goal

pub returns-then-paired : goal.returns-then-paired
returns-then-paired c = rw c.if-paired.true c.above.ensures
