-- What the inner functions of the check require.
use Rattle.std.specs.Prelude.{◌≡◌, Bool, List, ℕ, ◌+◌, ◌-◌, ◌≤◌, ◌<◌, eqb, length, get_or, Float}
use Rattle.std.specs.Float.{binary64}
use Rattle.std.specs.Float.Ieee.{add}
use Rattle.limits.specs.Limits.{max_columns, max_general}
use Rattle.sparse.specs.Columns.{Columns}
use Rattle.sparse.specs.Pattern.{row_of, start, end}
use Rattle.hungarian.specs.Graph.{CostGraph, cost_of}
use Rattle.match_check.specs.Check.{Claim, row_for, row_dual, column_dual, every_of}

-- the pattern of an accepted graph
pub record AcceptedPattern (n : ℕ) (col_ptr row_idx : List ℕ) : Type 0 where
  pub few : n ≤ max_columns
  pub entries : length row_idx ≤ max_general
  pub pointers : length col_ptr ≡ n + 1
  pub columns : Columns n col_ptr row_idx

-- entries of a graph with costs, whose rows have duals
pub record Stretch (from to : ℕ) (row_idx : List ℕ) (cost u : List Float) : Type 0 where
  pub rises : from ≤ to
  pub within : to ≤ length row_idx
  pub costs : length cost ≡ length row_idx
  pub rows : (k : ℕ) → k < length row_idx → get_or row_idx k 0 < length u

-- an accepted graph and a claim's lists, each of its length
pub record Checkable (n : ℕ) (col_ptr row_idx : List ℕ) (cost : List Float) (s : Claim) : Type 0 where
  pub pattern : AcceptedPattern n col_ptr row_idx
  pub costs : length cost ≡ length row_idx
  pub rows : length s.perm ≡ n
  pub row_duals : length s.u ≡ n
  pub column_duals : length s.v ≡ n

-- a test holds of each entry of the graph: of whether it is its column's pair, the sum of its duals, and its cost
abbrev pub sum_holds : (Bool → Float → Float → Bool) → CostGraph → Claim → ℕ → ℕ → Bool
sum_holds holds g s j k =
    holds (eqb (row_of g.pattern k) (row_for s j)) (add binary64 (row_dual s (row_of g.pattern k)) (column_dual s j))
    (cost_of g k)

abbrev pub column_sums_hold : (Bool → Float → Float → Bool) → CostGraph → Claim → ℕ → Bool
column_sums_hold holds g s j =
    every_of (end g.pattern j - start g.pattern j) (sum_holds holds g s j) (start g.pattern j)

unfoldable pub sums_hold : (Bool → Float → Float → Bool) → CostGraph → Claim → Bool
sums_hold holds g s = every_of g.pattern.n (column_sums_hold holds g s) 0
