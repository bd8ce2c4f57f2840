-- SPECIFICATION 5.1: A cost graph: a pattern, and the cost `cost_of g k` of each of its entries.
use Rattle.std.specs.Prelude.{List, ℕ, get_or, Float}
use Rattle.std.specs.Float.{nan}
use Rattle.sparse.specs.Pattern.{Pattern, pattern}

pub record CostGraph : Type 0 where
  pub pattern : Pattern
  pub cost : List Float

abbrev pub cost_of : CostGraph → ℕ → Float
cost_of g k = get_or g.cost k nan

-- a pattern with costs
abbrev pub with_costs : Pattern → List Float → CostGraph
with_costs p cost = record { pattern = p; cost = cost }

-- the graph of the lent slices
abbrev pub graph_of : ℕ → List ℕ → List ℕ → List Float → CostGraph
graph_of n col_ptr rows cost = with_costs (pattern n col_ptr rows) cost
