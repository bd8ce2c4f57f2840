-- `lengths_fit` meets its contract: it is the definition's chain of tests.
use Rattle.std.proofs.Common.{refl}
use Rattle.match_largest.specs.Call.{largest_lengths}
use Rattle.match_largest.proofs.lengths_fit.Goals as goal

pub returns : goal.returns
unfolding largest_lengths
returns c = refl
