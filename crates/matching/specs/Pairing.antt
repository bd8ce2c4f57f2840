-- How an algorithm writes a matching down: for each row its column, for each column its entry or its row, and a number
-- `none` for those that are free.
use Rattle.std.specs.Prelude.{◌≡◌, ◌≢◌, Bool, not, ℕ, ◌≤◌, ◌<◌, T, eqb}
use Rattle.matching.specs.Sum.{sum_to, or_zero}
use Rattle.matching.specs.Matching.{Bipartite}

-- the entries that their columns hold: jperm j is the entry of column j
unfoldable pub held_entries : Bipartite → (ℕ → ℕ) → ℕ → Bool
held_entries g jperm k = eqb (jperm (g.col k)) k

-- the entries (perm j, j): perm j is the row of column j
unfoldable pub paired_entries : Bipartite → (ℕ → ℕ) → ℕ → Bool
paired_entries g perm k = eqb (perm (g.col k)) (g.row k)

-- the matched count: how many numbers below n f does not send to `none`
unfoldable pub matched_count : ℕ → ℕ → (ℕ → ℕ) → ℕ
matched_count none n f = sum_to n (λ j. or_zero (not (eqb (f j) none)) 1)

-- if column j has an entry: it is an entry of column j, and its row has the column j
pub record OfColumn (g : Bipartite) (iperm jperm : ℕ → ℕ) (j : ℕ) : Type 0 where
  pub entry : jperm j < g.entries
  pub column : g.col (jperm j) ≡ j
  pub back : iperm (g.row (jperm j)) ≡ j

-- if row i has a column: that column has an entry, of row i
pub record OfRow (g : Bipartite) (none : ℕ) (iperm jperm : ℕ → ℕ) (i : ℕ) : Type 0 where
  pub range : iperm i < g.n
  pub taken : jperm (iperm i) ≢ none
  pub back : g.row (jperm (iperm i)) ≡ i

-- `none` is not the number of an entry, row or column
pub record Outside (g : Bipartite) (none : ℕ) : Type 0 where
  pub entries : g.entries ≤ none
  pub indices : g.n ≤ none

-- iperm (the column of each row) and jperm (the entry of each column) say the same
pub record Paired (g : Bipartite) (none : ℕ) (iperm jperm : ℕ → ℕ) : Type 0 where
  pub outside : Outside g none
  pub columns : (j : ℕ) → j < g.n → jperm j ≢ none → OfColumn g iperm jperm j
  pub rows : (i : ℕ) → i < g.n → iperm i ≢ none → OfRow g none iperm jperm i

-- perm j is the row of column j's entry
pub record RowsOf (g : Bipartite) (none : ℕ) (jperm perm : ℕ → ℕ) : Type 0 where
  pub free : (j : ℕ) → j < g.n → jperm j ≡ none → perm j ≡ none
  pub taken : (j : ℕ) → j < g.n → jperm j ≢ none → perm j ≡ g.row (jperm j)

-- Z is a closed set of columns: the row of an entry of a column in Z has a column, which is in Z
pub record ClosedColumns (g : Bipartite) (none : ℕ) (iperm : ℕ → ℕ) (Z : ℕ → Bool) : Type 0 where
  pub matched : (k : ℕ) → k < g.entries → T (Z (g.col k)) → iperm (g.row k) ≢ none
  pub inside : (k : ℕ) → k < g.entries → T (Z (g.col k)) → T (Z (iperm (g.row k)))
