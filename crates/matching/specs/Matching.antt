-- SPECIFICATION 2, "Matching": a set of entries of the graph, no two in one row or in one column. It is complete if it
-- has n entries; its total is the exact sum of the costs of its entries. A set of entries is S : ℕ → Bool, of which
-- only the numbers below `entries` count.
use Rattle.std.specs.Prelude.{◌≡◌, Bool, ℕ, ◌≤◌, ◌<◌, T}
use Rattle.matching.specs.Sum.{sum_to, or_zero}

-- A graph between n rows and n columns, numbered below n. Its entries are numbered below `entries`; entry k
-- joins the row `row k` and the column `col k`.
pub record Bipartite : Type 0 where
  pub n : ℕ
  pub entries : ℕ
  pub row : ℕ → ℕ
  pub col : ℕ → ℕ

-- every entry joins a row and a column of the graph
pub record InRange (g : Bipartite) : Type 0 where
  pub rows : (k : ℕ) → k < g.entries → g.row k < g.n
  pub cols : (k : ℕ) → k < g.entries → g.col k < g.n

-- no two entries join the same row and column
abbrev pub Simple : Bipartite → Type 0
Simple g = (k l : ℕ) → k < g.entries → l < g.entries → g.row k ≡ g.row l → g.col k ≡ g.col l → k ≡ l

-- no two entries of S in one row or one column
pub record IsMatching (g : Bipartite) (S : ℕ → Bool) : Type 0 where
  pub rows : (k l : ℕ) → k < g.entries → l < g.entries → T (S k) → T (S l) → g.row k ≡ g.row l → k ≡ l
  pub cols : (k l : ℕ) → k < g.entries → l < g.entries → T (S k) → T (S l) → g.col k ≡ g.col l → k ≡ l

-- how many entries S has
unfoldable pub size : Bipartite → (ℕ → Bool) → ℕ
size g S = sum_to g.entries (λ k. or_zero (S k) 1)

-- the sum of the costs of the entries of S
unfoldable pub total : Bipartite → (ℕ → ℕ) → (ℕ → Bool) → ℕ
total g c S = sum_to g.entries (λ k. or_zero (S k) (c k))

-- a matching with as many entries as there are rows, and columns
pub record Complete (g : Bipartite) (S : ℕ → Bool) : Type 0 where
  pub matching : IsMatching g S
  pub full : size g S ≡ g.n

-- S is a matching, and no matching has more entries
pub record Largest (g : Bipartite) (S : ℕ → Bool) : Type 0 where
  pub matching : IsMatching g S
  pub most : (R : ℕ → Bool) → IsMatching g R → size g R ≤ size g S

-- S is a complete matching, and no complete matching costs less
pub record LeastTotal (g : Bipartite) (c : ℕ → ℕ) (S : ℕ → Bool) : Type 0 where
  pub complete : Complete g S
  pub least : (R : ℕ → Bool) → Complete g R → total g c S ≤ total g c R
