-- `csc::from_triplets` meets its contract: it is that of the common function, for triplets of a lower triangle.
use Rattle.sparse.specs.Assemble.{symmetric_assembly}
use Rattle.sparse.proofs.csc.from_triplets.Goals as goal

pub returns-clause-outcome : goal.returns-clause-outcome
unfolding symmetric_assembly
returns-clause-outcome c = c.from_triplets.ensures.outcome
