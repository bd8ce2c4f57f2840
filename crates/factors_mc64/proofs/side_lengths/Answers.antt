-- `side_lengths`: it is the definition's chain of tests.
use Rattle.std.proofs.Common.{refl}
use Rattle.factors_mc64.specs.Calls.{side_lengths}
use Rattle.factors_mc64.proofs.side_lengths.Goals as goal

pub returns : goal.returns
unfolding side_lengths
returns c = refl
