-- `rest_fits`: it is the definition's chain of tests.
use Rattle.std.proofs.Common.{refl}
use Rattle.mc64.specs.Call.{rest_lengths}
use Rattle.mc64.proofs.rest_fits.Goals as goal

pub returns : goal.returns
unfolding rest_lengths
returns c = refl
