-- What the inner functions require and promise.
use Rattle.std.specs.Prelude.{◌≡◌, true, false, Option, Some, None, List, ◌++◌, ℕ, ◌+◌, ◌*◌, ◌≤◌, Float, length, take, drop}
use Rattle.triplets.specs.Built.{Triplets}
use Rattle.hungarian.specs.Graph.{graph_of}
use Rattle.mc64_columns.specs.Graphs.{graph_rows}
use Rattle.text_matrix_market.specs.File.{repeats}
use Rattle.text_symmetric_graph.specs.Graph.{triplet_graph}

-- room for the graph of that many entries, each of which may be mirrored
pub record GraphRoom (n count : ℕ) (graph_ptr graph_rows : List ℕ) (cost : List Float) : Type 0 where
  pub pointer_room : length graph_ptr ≡ n + 1
  pub row_room : length graph_rows ≡ 2 * count
  pub cost_room : length cost ≡ 2 * count

-- the graph of the triplets, no two of which have the same pair, is at the front of the slices
pub record HoldsGraph (n : ℕ) (t : Triplets) (graph_ptr graph_rows : List ℕ) (cost : List Float) (kept : ℕ) : Type 0 where
  pub once : repeats t.rows t.cols ≡ false
  pub graph : graph_of n graph_ptr (take kept graph_rows) (take kept cost) ≡ triplet_graph n t
  pub fits : kept ≤ 2 * length t.rows

-- what is answered, and what the slices then hold
abbrev pub Answers : ℕ → Triplets → List ℕ → List ℕ → List Float → Option ℕ → Type 0
Answers n t graph_ptr graph_rows cost (Some kept) = HoldsGraph n t graph_ptr graph_rows cost kept
Answers n t graph_ptr graph_rows cost None = repeats t.rows t.cols ≡ true

pub record GraphSlices : Type 0 where
  pub pointers : List ℕ
  pub rows : List ℕ
  pub costs : List Float

abbrev pub graph_slices : List ℕ → List ℕ → List Float → GraphSlices
graph_slices pointers rows costs = record { pointers = pointers; rows = rows; costs = costs }

-- the graph, followed by what the slices held; if a pair occurs twice, everything is as it was
abbrev pub graph_left : ℕ → Triplets → GraphSlices → Option ℕ → GraphSlices
graph_left n t before (Some kept) =
    let g = triplet_graph n t in
    graph_slices g.pattern.col_ptr (g.pattern.row_idx ++ drop kept before.rows)
    (g.cost ++ drop kept before.costs)
graph_left n t before None = before
