-- `lengths_fit` meets its contract: it is the definition's chain of tests.
use Rattle.std.proofs.Common.{refl}
use Rattle.match_check.specs.Check.{check_lengths}
use Rattle.match_check.proofs.lengths_fit.Goals as goal

pub returns : goal.returns
unfolding check_lengths
returns c = refl
