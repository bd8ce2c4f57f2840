-- SPECIFICATION 11.4: The cost graph of a symmetric file: its entries as triplets, assembled as the lower triangle of a
-- matrix, which is mirrored and has its costs from whole-number logarithms. Entry k is (row k, column k, weight k),
-- indices from 0; the weight is the size of its value, whose sign makes no difference.
use Rattle.std.specs.Prelude.{◌≡◌, List, ℕ, suc, ◌^◌, ◌≤◌, ◌<◌, ℤ, nat_abs, Float, length, get_or}
use Rattle.std.specs.Float.{nan}
use Rattle.float64.specs.Number.{Whole}
use Rattle.slices.specs.Lists.{tabulate}
use Rattle.triplets.specs.Built.{Triplets, rows_before, values_before}
use Rattle.triplets.specs.Order.{Below}
use Rattle.sparse.specs.Matrix.{Matrix, matrix}
use Rattle.hungarian.specs.Graph.{CostGraph, graph_of}
use Rattle.mc64_columns.specs.Columns.{value_logs}
use Rattle.mc64_columns.specs.Graphs.{graph_pointers, graph_rows, graph_costs}
use Rattle.mc64_symmetric.specs.Graph.{mirrored_columns}
use Rattle.text_graph.specs.Graph.{Inside, cost_values, file_triplets}

-- ---- the file
-- entries of the lower triangle, within the limit of a file, and their weights
pub record SymmetricEntries (n : ℕ) (rows cols weights : List ℕ) : Type 0 where
  pub few : n ≤ 64
  pub short : length rows ≤ 512
  pub inside : Inside n rows cols
  pub lower : (k : ℕ) → k < length rows → get_or cols k 0 ≤ get_or rows k 0
  pub sizes : length weights ≡ length rows
  pub weights_in : Below (2 ^ 53) weights

-- ---- the graph
-- what `from_triplets` leaves of triplets: by column, then row
abbrev pub triplet_matrix : ℕ → Triplets → Matrix
triplet_matrix n t =
    matrix n (tabulate (suc n) (λ j. length (rows_before t.rows t.cols n j))) (rows_before t.rows t.cols n n)
    (values_before t n n)

-- what `whole_symmetric_graph` leaves of a matrix: no zeros, every other entry mirrored
abbrev pub mirrored_graph : Matrix → CostGraph
mirrored_graph m =
    let n = m.pattern.n in
    let g = mirrored_columns m in
    graph_of n (graph_pointers g n) (graph_rows g n) (graph_costs g (value_logs m.values) n)

abbrev pub triplet_graph : ℕ → Triplets → CostGraph
triplet_graph n t = mirrored_graph (triplet_matrix n t)

abbrev pub symmetric_graph : ℕ → List ℕ → List ℕ → List ℕ → CostGraph
symmetric_graph n rows cols weights = triplet_graph n (file_triplets rows cols weights)

-- values with these sizes: whole, of either sign. Theorem `signs_free`: their graph is the same
abbrev pub Signed : List ℕ → List Float → Type 0
Signed weights values =
    (k : ℕ) → k < length weights → (z : ℤ) × (nat_abs z ≡ get_or weights k 0) × Whole (get_or values k nan) z

-- ---- the call
-- the entries with their weights as doubles
pub record SymmetricValues (n : ℕ) (rows cols : List ℕ) (values : List Float) : Type 0 where
  pub weights : List ℕ
  pub held : SymmetricEntries n rows cols weights
  pub valued : values ≡ cost_values weights
