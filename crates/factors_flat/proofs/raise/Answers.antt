-- `raise`: the sum is raised to, and the mark set.
use Rattle.std.proofs.Common.{rules}
use Rattle.factors_flat.specs.inner.Steps.{raised_at}
use Rattle.factors_flat.proofs.raise.Goals as goal

pub returns : goal.returns
unfolding raised_at
returns c = search rules
