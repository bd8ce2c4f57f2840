-- `layout::lengths_fit` meets its contract: its tests are those of the definition, in their order.
use Rattle.std.proofs.Common.{rules, tests}
use Rattle.sparse.specs.Assemble.{triplet_lengths}
use Rattle.sparse.proofs.layout.lengths_fit.Goals as goal

pub returns-then-values-count : goal.returns-then-values-count
unfolding triplet_lengths
returns-then-values-count c = search (rules, tests)

pub returns-else-values-count : goal.returns-else-values-count
unfolding triplet_lengths
returns-else-values-count c = search (rules, tests)
