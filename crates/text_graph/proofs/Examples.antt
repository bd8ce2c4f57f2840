-- The definitions on the file of SPECIFICATION 13, sample 2, and a pair that occurs twice, by computing.
use mathlib.Core.Path.{◌≡◌, refl}
use mathlib.Core.Bool.{true, false}
use mathlib.Core.List.{List, [], ◌∷◌}
use Prim.Native.Nat.{ℕ}
use lib.Ieee.{of_bits, of_int, add, round}
use Rattle.slices.specs.Lists.{tabulate}
use Rattle.triplets.specs.Built.{filled, sum_at, column_rows, rows_before, values_before}
use Rattle.hungarian.specs.Graph.{CostGraph}
use Rattle.text_matrix_market.specs.File.{repeats}
use Rattle.text_graph.specs.Graph.{cost_values, file_graph}

abbrev file_rows : List ℕ
file_rows = 0 ∷ 1 ∷ 0 ∷ 1 ∷ 2 ∷ 0 ∷ 1 ∷ 2 ∷ []

abbrev file_cols : List ℕ
file_cols = 0 ∷ 0 ∷ 1 ∷ 1 ∷ 1 ∷ 2 ∷ 2 ∷ 2 ∷ []

abbrev sample_graph : CostGraph
sample_graph = file_graph 3 file_rows file_cols (1 ∷ 3 ∷ 1 ∷ 2 ∷ 5 ∷ 0 ∷ 0 ∷ 0 ∷ [])

no_repeat : repeats file_rows file_cols ≡ false
unfolding repeats
no_repeat = refl

-- (1, 2) twice
one_repeat : repeats (0 ∷ 1 ∷ 2 ∷ 1 ∷ []) (2 ∷ 2 ∷ 1 ∷ 2 ∷ []) ≡ true
unfolding repeats
one_repeat = refl

pointers : sample_graph.pattern.col_ptr ≡ 0 ∷ 2 ∷ 5 ∷ 8 ∷ []
unfolding filled column_rows rows_before tabulate
pointers = refl

rows : sample_graph.pattern.row_idx ≡ file_rows
unfolding filled column_rows rows_before
rows = refl

costs : sample_graph.cost ≡ cost_values (1 ∷ 3 ∷ 1 ∷ 2 ∷ 5 ∷ 0 ∷ 0 ∷ 0 ∷ [])
unfolding filled sum_at column_rows values_before of_bits of_int add round
costs = refl
