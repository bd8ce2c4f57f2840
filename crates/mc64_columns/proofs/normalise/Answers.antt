-- `normalise`: the costs are the logs below the largest one.
use Rattle.std.proofs.Common.{rules}
use Rattle.mc64_columns.specs.Columns.{normalised}
use Rattle.mc64_columns.proofs.normalise.Goals as goal

pub returns-clause-costs : goal.returns-clause-costs
unfolding normalised
returns-clause-costs c = search rules
