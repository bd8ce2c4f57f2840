-- `lengths_fit`: it is the definition's chain of tests.
use Rattle.std.proofs.Common.{refl}
use Rattle.hungarian_match.specs.Call.{match_lengths}
use Rattle.hungarian_match.proofs.lengths_fit.Goals as goal

pub returns : goal.returns
unfolding match_lengths
returns c = refl
