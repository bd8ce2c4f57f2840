-- What the search keeps between two entries, by the columns of rows (`inverse`), the marks of rows and the queue. A row
-- that has no column has a number in `inverse` that is not below n.
use Rattle.std.specs.Prelude.{◌≡◌, Bool, ◌&&◌, ◌≢◌, ◌↔◌, List, ℕ, ◌+◌, ◌≤◌, ◌<◌, eqb, ltb, length, get_or}
use Rattle.limits.specs.Limits.{none, max_columns}
use Rattle.matching.specs.Sum.{sum_to, or_zero}
use Rattle.sparse.specs.Pattern.{Pattern, row_of, column_of, entries, InColumn}
use Rattle.match_largest.specs.Marks.{row_at, is_free, marked_rows}

-- for each column before j with a row of the pattern, `inverse` of the row is it or an earlier column with that row
pub record Entered (n : ℕ) (perm : List ℕ) (j : ℕ) (inverse : List ℕ) : Type 0 where
  pub places : length inverse ≡ max_columns
  pub taken : (i c : ℕ) → i < n → c < j → row_at perm c ≡ i → get_or inverse i 0 < n
  pub back : (i : ℕ) → i < n → get_or inverse i 0 < n → (get_or inverse i 0 < j) × (row_at perm (get_or inverse i 0) ≡ i)

-- the first `free` places of the queue are the columns before j without a row
pub record Queued (perm : List ℕ) (j : ℕ) (queue : List ℕ) (free : ℕ) : Type 0 where
  pub places : length queue ≡ 4097
  pub count : free ≡ sum_to j (λ c. or_zero (is_free perm c) 1)
  pub is_column : (p : ℕ) → p < free → (get_or queue p 0 < j) × (row_at perm (get_or queue p 0) ≡ none)
  pub place : (c : ℕ) → c < j → row_at perm c ≡ none → (p : ℕ) × (p < free) × (get_or queue p 0 ≡ c)

-- an alternating path leads to column j from a column that no row has
pub data Led (g : Pattern) (inverse : List ℕ) : ℕ → Type 0 where
  begins : {j : ℕ} → j < g.n → ((i : ℕ) → i < g.n → get_or inverse i 0 ≢ j) → Led g inverse j
  goes : {j : ℕ} (k : ℕ) → k < entries g → Led g inverse (column_of g k) → j < g.n → get_or inverse (row_of g k) 0 ≡ j
      → Led g inverse j

-- an entry of such a column is in row i
pub record LedRow (g : Pattern) (inverse : List ℕ) (i : ℕ) : Type 0 where
  pub entry : ℕ
  pub within : entry < entries g
  pub row : row_of g entry ≡ i
  pub column : Led g inverse (column_of g entry)

-- column j is in the queue
pub record Waits (queue : List ℕ) (last j : ℕ) : Type 0 where
  pub place : ℕ
  pub before : place < last
  pub column : get_or queue place 0 ≡ j

-- rows with a column that are not marked yet
abbrev pub unmet : ℕ → List ℕ → List ℕ → ℕ → Bool
unmet n inverse met i = eqb (get_or met i 0) 0 && ltb (get_or inverse i 0) n

-- the columns before `head` are searched, and the entries before k of the column at `head`
pub record Sweeping (g : Pattern) (inverse met queue : List ℕ) (head k last : ℕ) : Type 0 where
  pub marks : length met ≡ max_columns
  pub places : length queue ≡ 4097
  pub before : head ≤ last
  -- the queue has room for the columns of all rows that are not marked
  pub left : last + sum_to g.n (λ i. or_zero (unmet g.n inverse met i) 1) ≡ g.n
  pub bits : (i : ℕ) → get_or met i 0 ≤ 1
  -- what is in the queue, and what must be
  pub columns : (p : ℕ) → p < last → (get_or queue p 0 < g.n) × Led g inverse (get_or queue p 0)
  pub frees : (j : ℕ) → j < g.n → ((i : ℕ) → i < g.n → get_or inverse i 0 ≢ j) → Waits queue last j
  pub waiting : (i : ℕ) → i < g.n → get_or met i 0 ≡ 1 → get_or inverse i 0 < g.n → Waits queue last (get_or inverse i 0)
  -- what is marked, and what must be
  pub swept : (p l : ℕ) → p < head → InColumn g (get_or queue p 0) l → get_or met (row_of g l) 0 ≡ 1
  pub begun : (l : ℕ) → l < k → InColumn g (get_or queue head 0) l → get_or met (row_of g l) 0 ≡ 1
  pub sound : (i : ℕ) → i < g.n → get_or met i 0 ≡ 1 → LedRow g inverse i

-- at the end: a row is marked exactly if a path leads to a column with an entry in it
pub record Swept (g : Pattern) (inverse met : List ℕ) : Type 0 where
  pub marks : length met ≡ max_columns
  pub bits : (i : ℕ) → get_or met i 0 ≤ 1
  pub exactly : (i : ℕ) → i < g.n → (get_or met i 0 ≡ 1) ↔ LedRow g inverse i

-- the marks of rows are those of the definition
pub record Searched (g : Pattern) (perm met : List ℕ) : Type 0 where
  pub marks : length met ≡ max_columns
  pub same : (i : ℕ) → i < g.n → get_or met i 0 ≡ get_or (marked_rows g perm) i 0
