-- What the two steps of phase 3 leave: the definition's best entry, and the pair in its regions.
use Rattle.std.specs.Prelude.{◌≡◌, List, ℕ, ◌+◌, ◌≤◌, ◌<◌, set, Float}
use Rattle.sparse.specs.Pattern.{start, end}
use Rattle.hungarian.specs.Graph.{CostGraph}
use Rattle.hungarian.specs.Init as definition
use Rattle.hungarian.specs.inner.Layout.{region, iperm_at, jperm_at, from_at}
use Rattle.hungarian_best.specs.declared.Best.{Best}

-- the code's best entry as the definition has it
abbrev pub best_view : Best → definition.Best
best_view b = record { value = b.value; row = b.row; place = b.place }

pub record BestEntry (g : CostGraph) (u : List Float) (iperm : List ℕ) (j : ℕ) (b : Best) : Type 0 where
  pub tie : best_view b ≡ definition.best_of g u iperm j
  pub above : start g.pattern j ≤ b.place
  pub below : b.place < end g.pattern j
  pub row : b.row < g.pattern.n

-- row i and column j are paired by entry k, and j is searched from the next place on
pub record Linked (n : ℕ) (w : List ℕ) (i j k : ℕ) (w' : List ℕ) : Type 0 where
  pub rows : region iperm_at n w' ≡ set (region iperm_at n w) i j
  pub columns : region jperm_at n w' ≡ set (region jperm_at n w) j k
  pub from : region from_at n w' ≡ set (region from_at n w) j (k + 1)
