-- The operations are the definition's.
use Rattle.infnorm_factors.specs.Factors.{scaled_size}
use Rattle.infnorm_factors.proofs.scaled_size.Goals as goal

pub returns : goal.returns
unfolding scaled_size
returns c = c.size_of.ensures
