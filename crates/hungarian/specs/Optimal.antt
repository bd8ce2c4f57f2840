-- SPECIFICATION 5.12: What the match promises, in terms of the graph and all its matchings. For any accepted costs:
-- perm's pairs are entries and a largest matching, complete if the graph has a complete one. For whole costs also:
-- least total, with duals that show it.
use Rattle.std.specs.Prelude.{◌≡◌, ◌↔◌, ◌⊎◌, ◌≢◌, Bool, ℕ, ◌≤◌, ◌<◌, T, length, get_or, nat_abs, ◌+ℤ◌, ◌≤ℤ◌, Float}
use Rattle.std.specs.Float.{nan}
use Rattle.limits.specs.Limits.{none}
use Rattle.float64.specs.Number.{whole_of, IsWhole}
use Rattle.matching.specs.Matching.{IsMatching, Complete, size, total}
use Rattle.matching.specs.Pairing.{paired_entries, matched_count}
use Rattle.sparse.specs.Pattern.{Pattern, bipartite, row_of, column_of, entries}
use Rattle.hungarian.specs.Graph.{CostGraph, cost_of}
use Rattle.hungarian.specs.Match.{Matching}

-- every cost stands for a whole number
abbrev pub WholeCosts : CostGraph → Type 0
WholeCosts g = (k : ℕ) → k < entries g.pattern → IsWhole (cost_of g k)

-- the number that a whole cost stands for: a cost is not negative
unfoldable pub amount : CostGraph → ℕ → ℕ
amount g k = nat_abs (whole_of (cost_of g k))

-- the row of column j, or none
abbrev pub row_for : Matching → ℕ → ℕ
row_for m j = get_or m.perm j 0

-- our pairs (perm j, j) as a set of entries
unfoldable pub matched_entries : Pattern → Matching → ℕ → Bool
matched_entries g m = paired_entries (bipartite g) (row_for m)

-- row i and column j are joined by an entry
pub record IsEntry (g : Pattern) (i j : ℕ) : Type 0 where
  pub entry : ℕ
  pub within : entry < entries g
  pub row : row_of g entry ≡ i
  pub column : column_of g entry ≡ j

-- for any accepted costs, whole or not
pub record LargestMatch (g : Pattern) (m : Matching) : Type 0 where
  -- perm has n places; each holds none, or the row of an entry of its column, which is below n
  pub places : length m.perm ≡ g.n
  pub pairs : (j : ℕ) → j < g.n → row_for m j ≢ none → IsEntry g (row_for m j) j
  pub rows : (j : ℕ) → j < g.n → (row_for m j ≡ none) ⊎ (row_for m j < g.n)
  -- the matched count is the number of places that are not none
  pub counted : m.matched ≡ matched_count none g.n (row_for m)
  pub count : m.matched ≤ g.n
  -- ours is a matching of that count, and none has more pairs
  pub matching : IsMatching (bipartite g) (matched_entries g m)
  pub pair_count : size (bipartite g) (matched_entries g m) ≡ m.matched
  pub largest : (R : ℕ → Bool) → IsMatching (bipartite g) R → size (bipartite g) R ≤ m.matched
  -- it is complete exactly when the graph has a complete matching
  pub complete : (m.matched ≡ g.n) ↔ ((R : ℕ → Bool) × Complete (bipartite g) R)

-- u of row i and v of column j
abbrev pub row_dual : Matching → ℕ → Float
row_dual m i = get_or m.u i nan

abbrev pub column_dual : Matching → ℕ → Float
column_dual m j = get_or m.v j nan

-- of whole costs
pub record Optimal (g : CostGraph) (m : Matching) : Type 0 where
  -- perm's pairs are a largest matching, complete where there is a complete one
  pub ranged : LargestMatch g.pattern m
  -- a complete one is of least total
  pub least : m.matched ≡ g.pattern.n → (R : ℕ → Bool) → Complete (bipartite g.pattern) R
      → total (bipartite g.pattern) (amount g) (matched_entries g.pattern m)
      ≤ total (bipartite g.pattern) (amount g) R
  -- the duals are whole, u + v is at most the cost on every entry, and equal to it on ours
  pub rows_whole : (i : ℕ) → i < g.pattern.n → IsWhole (row_dual m i)
  pub columns_whole : (j : ℕ) → j < g.pattern.n → IsWhole (column_dual m j)
  pub feasible : (k : ℕ) → k < entries g.pattern
      → (whole_of (row_dual m (row_of g.pattern k)) +ℤ whole_of (column_dual m (column_of g.pattern k)))
      ≤ℤ whole_of (cost_of g k)
  pub tight : (k : ℕ) → k < entries g.pattern → T (matched_entries g.pattern m k)
      → whole_of (row_dual m (row_of g.pattern k)) +ℤ whole_of (column_dual m (column_of g.pattern k))
      ≡ whole_of (cost_of g k)

-- of whole costs: no dual is above b in size
pub record DualsWithin (b : ℕ) (g : CostGraph) (m : Matching) : Type 0 where
  pub rows : (i : ℕ) → i < g.pattern.n → nat_abs (whole_of (row_dual m i)) ≤ b
  pub columns : (j : ℕ) → j < g.pattern.n → nat_abs (whole_of (column_dual m j)) ≤ b
