-- What the last steps require and leave.
use Rattle.std.specs.Prelude.{◌≡◌, ◌⊎◌, List, ℕ, ◌<◌, length, get_or, Float}
use Rattle.limits.specs.Limits.{none}
use Rattle.hungarian.specs.Graph.{graph_of}
use Rattle.hungarian.specs.Match.{perm_of, column_duals}
use Rattle.hungarian.specs.inner.Layout.{Workspace, region, jperm_at}

-- every column has an entry of the graph or none, every entry a row below n
pub record Finishable (n : ℕ) (rows : List ℕ) (cost u : List Float) (w : List ℕ) : Type 0 where
  pub workspace : Workspace n w
  pub duals : length u ≡ n
  pub costs : length cost ≡ length rows
  pub entries : (j : ℕ) → j < n → (get_or (region jperm_at n w) j 0 ≡ none) ⊎ (get_or (region jperm_at n w) j 0 < length rows)
  pub inside : (k : ℕ) → k < length rows → get_or rows k 0 < n

-- perm and v, of a graph with these rows and costs
pub record Columned (n : ℕ) (rows : List ℕ) (cost u : List Float) (jperm perm : List ℕ) (v : List Float) : Type 0 where
  pub rows_of : (col_ptr : List ℕ) → perm ≡ perm_of (graph_of n col_ptr rows cost) jperm
  pub duals : (col_ptr : List ℕ) → v ≡ column_duals (graph_of n col_ptr rows cost) u jperm
