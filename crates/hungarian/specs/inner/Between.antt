-- What holds between the steps of the match, of the pairs s and the row duals u: M, F, B and D of the argument that is
-- laid out in docs/PROOFS.md, and how low a dual falls.
use Rattle.std.specs.Prelude.{◌≡◌, ◌≢◌, List, ℕ, ◌+◌, ◌*◌, ◌≤◌, ◌<◌, length, get_or, Float}
use Rattle.std.specs.Float.{nan}
use Rattle.limits.specs.Limits.{none}
use Rattle.float64.specs.Number.{units_per_one, origin}
use Rattle.float64.specs.inner.Keys.{position}
use Rattle.matching.specs.Pairing.{Paired, matched_count}
use Rattle.sparse.specs.Pattern.{bipartite, row_of, entries, InColumn}
use Rattle.hungarian.specs.Graph.{CostGraph, cost_of}
use Rattle.hungarian.specs.Init.{Pairs}
use Rattle.hungarian.specs.inner.Bounds.{Small, Cost, dual_bound}

-- a list as a function of the index
abbrev pub at : List ℕ → ℕ → ℕ
at l i = get_or l i 0

abbrev pub dual : List Float → ℕ → Float
dual u i = get_or u i nan

-- M: the pairs are a matching, and num counts them
pub record Matched (g : CostGraph) (s : Pairs) : Type 0 where
  pub row_count : length s.iperm ≡ g.pattern.n
  pub column_count : length s.jperm ≡ g.pattern.n
  pub paired : Paired (bipartite g.pattern) none (at s.iperm) (at s.jperm)
  pub counted : s.num ≡ matched_count none g.pattern.n (at s.jperm)

-- F and B: duals are bounded, a free row's is still between 0 and the cost limit
pub record Bounded (Good : Float → Type 0) (C : ℕ) (g : CostGraph) (s : Pairs) (u : List Float) : Type 0 where
  pub dual_count : length u ≡ g.pattern.n
  pub small : (i : ℕ) → i < g.pattern.n → Small Good (dual_bound g.pattern.n C) (dual u i)
  pub free : (i : ℕ) → i < g.pattern.n → at s.iperm i ≡ none → Cost Good C (dual u i)

-- D: no dual is above a cost in its row, and a matched column's entry is the least of its column by cost minus u
pub record Tight (g : CostGraph) (s : Pairs) (u : List Float) : Type 0 where
  pub below : (k : ℕ) → k < entries g.pattern → position (dual u (row_of g.pattern k)) ≤ position (cost_of g k)
  pub least : (j k : ℕ) → InColumn g.pattern j k → at s.jperm j ≢ none
      → position (cost_of g (at s.jperm j)) + position (dual u (row_of g.pattern k))
      ≤ position (cost_of g k) + position (dual u (row_of g.pattern (at s.jperm j)))

-- if sums are exact: no dual is below minus 2 n - 1 times the cost limit
pub record Floored (C : ℕ) (g : CostGraph) (u : List Float) : Type 0 where
  pub low : (i : ℕ) → i < g.pattern.n → origin + C * units_per_one
      ≤ position (dual u i) + 2 * (g.pattern.n * (C * units_per_one))
