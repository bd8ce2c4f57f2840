-- `lengths_fit`: it is the definition's chain of tests.
use Rattle.std.proofs.Common.{refl}
use Rattle.factors_mc64.specs.Calls.{lengths}
use Rattle.factors_mc64.proofs.lengths_fit.Goals as goal

pub returns : goal.returns
unfolding lengths
returns c = refl
