-- `lengths_fit` meets its contract: its tests are the definition's.
use Rattle.std.proofs.Common.{refl}
use Rattle.sheet_reader.specs.Call.{lengths}
use Rattle.sheet_reader.proofs.lengths_fit.Goals as goal

pub returns : goal.returns
unfolding lengths
returns c = refl
