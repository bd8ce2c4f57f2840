-- `lengths_fit`: it is the definition's chain of tests.
use Rattle.std.proofs.Common.{rules}
use Rattle.factors_flat.specs.Call.{flat_lengths}
use Rattle.factors_flat.proofs.lengths_fit.Goals as goal

pub returns : goal.returns
unfolding flat_lengths
returns c = search rules
