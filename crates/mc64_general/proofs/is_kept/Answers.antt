-- `is_kept`: it is the definition's two tests.
use Rattle.std.proofs.Common.{rules}
use Rattle.mc64_general.specs.Graph.{is_kept}
use Rattle.mc64_general.proofs.is_kept.Goals as goal

pub returns : goal.returns
unfolding is_kept
returns c = search rules
