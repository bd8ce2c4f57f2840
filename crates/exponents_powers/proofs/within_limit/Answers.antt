-- The test is the definition's, by computing.
use Rattle.std.proofs.Common.{rules}
use Rattle.exponents_powers.specs.Power.{within_limit}
use Rattle.exponents_powers.proofs.within_limit.Goals as goal

pub returns : goal.returns
unfolding within_limit
returns c = search rules
