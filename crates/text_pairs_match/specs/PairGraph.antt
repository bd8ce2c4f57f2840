-- The graph of a match's pairs, as the pattern file of them has it, and what makes its entries a matching.
use Rattle.std.specs.Prelude.{◌≡◌, ◌≢◌, true, List, map, ℕ, ◌<◌, get_or}
use Rattle.limits.specs.Limits.{none}
use Rattle.matching.specs.Matching.{IsMatching}
use Rattle.sparse.specs.Pattern.{Pattern, bipartite}
use Rattle.hungarian.specs.Graph.{CostGraph}
use Rattle.text_matrix_market.specs.File.{entry_row, entry_column, entry_weight}
use Rattle.text_graph.specs.Graph.{file_graph}
use Rattle.text_pairs_read.specs.Pairs.{pair_entries}

abbrev pub pair_graph : ℕ → List ℕ → CostGraph
pair_graph n perm =
    let entries = pair_entries n perm in
    file_graph n (map entry_row entries) (map entry_column entries) (map entry_weight entries)

-- no two of the first n columns have the same row
abbrev pub RowsOnce : ℕ → List ℕ → Type 0
RowsOnce n perm =
    (i j : ℕ) → i < n → j < n → get_or perm i 0 ≢ none → get_or perm i 0 ≡ get_or perm j 0 → i ≡ j

-- the entries of the graph are a matching
abbrev pub AllMatching : Pattern → Type 0
AllMatching g = IsMatching (bipartite g) (λ k. true)
