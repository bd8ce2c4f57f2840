-- The graph of a small symmetric file by computing: its lines are `2 1 -8`, `3 2 1024` and `3 1 3`, in this order.
use mathlib.Core.Path.{◌≡◌, refl}
use mathlib.Core.List.{[], ◌∷◌}
use lib.Ieee.{of_bits, of_int, sub, add, neg, sum, round, units, odd, climb, size, span, eq, lt}
use Rattle.float64.specs.Number.{magnitude, units_per_one}
use Rattle.slices.specs.Lists.{tabulate}
use Rattle.triplets.specs.Built.{filled, sum_at, column_rows, rows_before, values_before}
use Rattle.hungarian.specs.Graph.{CostGraph}
use Rattle.whole_log.specs.Log.{whole_log}
use Rattle.matching.specs.Sum.{sum_to}
use Rattle.sparse.specs.Pattern.{column_of}
use Rattle.mc64_columns.specs.Columns.{largest, largest_from, normalised}
use Rattle.mc64_columns.specs.Graphs.{joined}
use Rattle.mc64_symmetric.specs.Graph.{places_to}
use Rattle.text_graph.specs.Graph.{cost_values}
use Rattle.text_symmetric_graph.specs.Graph.{symmetric_graph}

abbrev sample : CostGraph
sample = symmetric_graph 3 (1 ∷ 2 ∷ 2 ∷ []) (0 ∷ 1 ∷ 0 ∷ []) (8 ∷ 1024 ∷ 3 ∷ [])

pointers : sample.pattern.col_ptr ≡ 0 ∷ 2 ∷ 4 ∷ 6 ∷ []
unfolding filled sum_at column_rows rows_before values_before tabulate joined places_to column_of sum_to of_bits of_int add sum round units odd climb size span eq
pointers = refl

rows : sample.pattern.row_idx ≡ 1 ∷ 2 ∷ 0 ∷ 2 ∷ 0 ∷ 1 ∷ []
unfolding filled sum_at column_rows rows_before values_before tabulate joined places_to column_of sum_to of_bits of_int add sum round units odd climb size span eq
rows = refl

costs : sample.cost ≡ cost_values (0 ∷ 92736 ∷ 458752 ∷ 0 ∷ 551488 ∷ 0 ∷ [])
unfolding filled sum_at column_rows rows_before values_before tabulate joined places_to column_of sum_to whole_log magnitude units_per_one normalised largest
    largest_from lt
    sub neg of_bits of_int add sum round units odd climb size span eq
costs = refl

-- a zero is dropped on both sides of the diagonal
dropped : (symmetric_graph 2 (1 ∷ 1 ∷ []) (0 ∷ 1 ∷ []) (0 ∷ 5 ∷ [])).pattern.row_idx ≡ 1 ∷ []
unfolding filled sum_at column_rows rows_before values_before tabulate joined places_to column_of sum_to of_bits of_int add sum round units odd climb size span eq
dropped = refl
