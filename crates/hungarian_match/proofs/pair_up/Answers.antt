-- `pair_up`: either end leaves the last pairs, by Calls.
use Rattle.std.proofs.Common.{◌∙◌}
use Rattle.hungarian_match.proofs.Calls.{paired_early, paired_late}
use Rattle.hungarian_match.proofs.pair_up.Goals as goal

pub returns-then-num-n : goal.returns-then-num-n
returns-then-num-n c = paired_early c.start-started.ensures c.if-num-n.true

pub returns : goal.returns
returns c = paired_late (λ e. c.if-num-n.false (c.start-started.ensures.num ∙ e)) c.run.ensures
