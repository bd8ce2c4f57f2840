-- The states of phases 1 and 2 as the slices hold them, and what the code requires of the slices.
use Rattle.std.specs.Prelude.{◌≡◌, ◌⊎◌, List, ℕ, suc, ◌+◌, ◌*◌, ◌≤◌, ◌<◌, length, get_or, Float}
use Rattle.limits.specs.Limits.{none, max_columns, max_general}
use Rattle.sparse.specs.Columns.{Columns}
use Rattle.sparse.specs.Pattern.{entries}
use Rattle.hungarian.specs.Graph.{CostGraph}
use Rattle.hungarian.specs.Init.{RowMinima, Pairs}
use Rattle.hungarian.specs.inner.Layout.{region, iperm_at, jperm_at, least_at}

abbrev pub minima_of : ℕ → List Float → List ℕ → RowMinima
minima_of n u w = record { u = u; iperm = region iperm_at n w; least = region least_at n w }

abbrev pub pairs_counted : ℕ → List ℕ → ℕ → Pairs
pairs_counted n w num = record { iperm = region iperm_at n w; jperm = region jperm_at n w; num = num }

-- what the graph test shows, as far as indices go
pub record Sound (g : CostGraph) : Type 0 where
  pub columns : Columns g.pattern.n g.pattern.col_ptr g.pattern.row_idx
  pub pointer_count : length g.pattern.col_ptr ≡ suc g.pattern.n
  pub cost_count : length g.cost ≡ entries g.pattern
  pub few_columns : g.pattern.n ≤ max_columns
  pub few_entries : entries g.pattern ≤ max_general

-- a graph, its duals and the work slice
pub record Ready (g : CostGraph) (u : List Float) (w : List ℕ) : Type 0 where
  pub sound : Sound g
  pub duals : length u ≡ g.pattern.n
  pub words : length w ≡ 12 * g.pattern.n + 1

-- each row has a column or none
abbrev pub Columned : ℕ → List ℕ → Type 0
Columned n iperm = (i : ℕ) → i < n → (get_or iperm i 0 ≡ none) ⊎ (get_or iperm i 0 < n)
