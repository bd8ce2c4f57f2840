-- SPECIFICATION 11.4: The cost graph that a tie file becomes: its entries as triplets, assembled as a general matrix.
-- Entry k is (row k, column k, cost k), indices from 0.
use Rattle.std.specs.Prelude.{◌≡◌, List, map, ℕ, suc, ◌*◌, ◌^◌, ◌<◌, pos, Float, length, get_or}
use Rattle.std.specs.Float.{binary64}
use Rattle.std.specs.Float.Ieee.{of_int}
use Rattle.slices.specs.Lists.{tabulate}
use Rattle.triplets.specs.Built.{Triplets, triplets, rows_before, values_before}
use Rattle.triplets.specs.Order.{Below}
use Rattle.hungarian.specs.Graph.{CostGraph, graph_of}

-- ---- the file
-- n rows and n columns; each entry has a row and a column
pub record Inside (n : ℕ) (rows cols : List ℕ) : Type 0 where
  pub pairs : length cols ≡ length rows
  pub rows_in : Below n rows
  pub cols_in : Below n cols

-- n times the cost of each entry is below 2 ^ 48
pub record CostsFit (n : ℕ) (rows costs : List ℕ) : Type 0 where
  pub same_length : length costs ≡ length rows
  pub costs_in : (k : ℕ) → k < length costs → n * get_or costs k 0 < 2 ^ 48

-- ---- the graph
-- each cost as a double
abbrev pub cost_values : List ℕ → List Float
cost_values costs = map (λ cost. of_int binary64 (pos cost)) costs

abbrev pub file_triplets : List ℕ → List ℕ → List ℕ → Triplets
file_triplets rows cols costs = triplets rows cols (cost_values costs)

-- by column, then row, as `from_triplets` leaves it
abbrev pub file_graph : ℕ → List ℕ → List ℕ → List ℕ → CostGraph
file_graph n rows cols costs =
    graph_of n (tabulate (suc n) (λ j. length (rows_before rows cols n j))) (rows_before rows cols n n)
    (values_before (file_triplets rows cols costs) n n)
