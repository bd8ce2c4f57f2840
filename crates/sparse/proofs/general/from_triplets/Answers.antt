-- `general::from_triplets` meets its contract: it is that of the common function, for triplets of a general matrix.
use Rattle.sparse.specs.Assemble.{general_assembly}
use Rattle.sparse.proofs.general.from_triplets.Goals as goal

pub returns-clause-outcome : goal.returns-clause-outcome
unfolding general_assembly
returns-clause-outcome c = c.from_triplets.ensures.outcome
