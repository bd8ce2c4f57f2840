-- `lengths_fit`: it is the definition's chain of tests.
use Rattle.std.proofs.Common.{refl}
use Rattle.mc64_columns.specs.Graphs.{slices_fit}
use Rattle.mc64_general.proofs.lengths_fit.Goals as goal

pub returns : goal.returns
unfolding slices_fit
returns c = refl
