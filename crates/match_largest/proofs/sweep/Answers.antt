-- `sweep` meets its contract: the queue is searched to its end.
use Rattle.match_largest.proofs.Sweeps.{sweep_ends}
use Rattle.match_largest.proofs.sweep.Goals as goal

pub returns : goal.returns
returns c = sweep_ends c.requires.accepted_pattern_1.columns c.loop-head.invariant c.loop-head-test.false
