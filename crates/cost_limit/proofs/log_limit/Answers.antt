-- One comparison of the size with a bound is the test.
use Rattle.cost_limit.proofs.Limits.{log_limit}
use Rattle.cost_limit.proofs.log_limit.Goals as goal

pub returns : goal.returns
returns c = log_limit c.bound.ensures
