-- What the theorems assume: a graph that the test accepts. If costs need not be whole, they are doubles, as everything
-- in a machine's slice is.
use Rattle.std.specs.Prelude.{◌≡◌, ℕ, ◌<◌, T}
use Rattle.std.specs.Float.{binary64}
use Rattle.std.specs.Float.Ieee.{fits}
use Rattle.sparse.specs.Pattern.{entries}
use Rattle.hungarian.specs.Graph.{CostGraph, cost_of}
use Rattle.hungarian.specs.Test.{graph_fault, graph_lengths}

abbrev pub Accepted : CostGraph → Type 0
Accepted g = graph_fault g (graph_lengths g) ≡ 0

abbrev pub Doubles : CostGraph → Type 0
Doubles g = (k : ℕ) → k < entries g.pattern → T (fits binary64 (cost_of g k))
