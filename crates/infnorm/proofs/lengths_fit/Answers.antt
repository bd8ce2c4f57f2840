-- It is the definition's chain of tests.
use Rattle.std.proofs.Common.{refl}
use Rattle.infnorm.specs.Call.{lengths_fit}
use Rattle.infnorm.proofs.lengths_fit.Goals as goal

pub returns : goal.returns
unfolding lengths_fit
returns c = refl
