-- Two comparisons with a bound are the test.
use Rattle.cost_limit.proofs.Limits.{cost_limit_lem}
use Rattle.cost_limit.proofs.cost_limit.Goals as goal

pub returns : goal.returns
returns c = cost_limit_lem c.bound.ensures
