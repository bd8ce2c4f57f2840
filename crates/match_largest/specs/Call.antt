-- SPECIFICATION 5.18: What `check_largest` answers and leaves, and what a caller may rely on: exactly the largest
-- matchings are accepted, and the marks show why no matching has more pairs.
use Rattle.std.specs.Prelude.{◌≡◌, ◌↔◌, ◌≢◌, Bool, ◌&&◌, List, [], ◌∷◌, ℕ, ◌+◌, ◌≤◌, ◌<◌, eqb, length, get_or, Float}
use Rattle.limits.specs.Limits.{none, max_columns, max_general}
use Rattle.refusal.specs.Refusal.{accepted}
use Rattle.slices.specs.Outcome.{Outcome, outcome_is, refusing, as_number}
use Rattle.sparse.specs.Fault.{or_else}
use Rattle.sparse.specs.Validate.{pattern_fault}
use Rattle.sparse.specs.Columns.{Columns}
use Rattle.matching.specs.Sum.{sum_to}
use Rattle.matching.specs.Matching.{IsMatching, Largest, size}
use Rattle.matching.specs.Pairing.{paired_entries, matched_count}
use Rattle.sparse.specs.Pattern.{Pattern, bipartite, row_of, column_of, entries}
use Rattle.hungarian.specs.Graph.{with_costs}
use Rattle.hungarian.specs.Accepted.{Doubles}
use Rattle.hungarian.specs.Optimal.{IsEntry}
use Rattle.hungarian_match.specs.Call.{Slices as MatchSlices, match_outcome}
use Rattle.refusal.specs.Number.{fault_of}
use Rattle.refusal.specs.Listed.{OneOf, largest_numbers}
use Rattle.match_largest.specs.Marks.{row_at, marked_columns, marked_rows, pairing_fault}

-- ---- what the call does
-- what is lent for the marks and the count
pub record Slices : Type 0 where
  pub columns : List ℕ
  pub rows : List ℕ
  pub matched : List ℕ

abbrev pub slices : List ℕ → List ℕ → List ℕ → Slices
slices columns rows matched = record { columns = columns; rows = rows; matched = matched }

-- 3: every slice has its length
unfoldable pub largest_lengths : ℕ → List ℕ → List ℕ → Slices → Bool
largest_lengths n col_ptr perm s =
    eqb (length col_ptr) (n + 1)
    && (eqb (length perm) n
    && (eqb (length s.columns) n && (eqb (length s.rows) n && eqb (length s.matched) 1)))

-- the first thing wrong, or 0
unfoldable pub largest_fault : Pattern → List ℕ → Slices → ℕ
unfolding largest_lengths pattern_fault pairing_fault
largest_fault g perm s =
    or_else (pattern_fault g (largest_lengths g.n g.col_ptr perm s)) (pairing_fault g perm)

-- how many columns have a row
abbrev pub pair_count : Pattern → List ℕ → ℕ
pair_count g perm = matched_count none g.n (row_at perm)

-- the marks of columns and rows, and the number of pairs
unfoldable pub marks_of : Pattern → List ℕ → Slices
unfolding marked_columns marked_rows matched_count
marks_of g perm = slices (marked_columns g perm) (marked_rows g perm) (pair_count g perm ∷ [])

-- what `check_largest` does: a refused call leaves everything as it is
unfoldable pub largest_outcome : Pattern → List ℕ → Slices → Outcome ℕ Slices
unfolding largest_fault marks_of
largest_outcome g perm s = refusing as_number (largest_fault g perm s) (outcome_is accepted (marks_of g perm)) s

-- ---- what is accepted
-- the pairs (perm j, j) as a set of entries
abbrev pub pairs : Pattern → List ℕ → ℕ → Bool
pairs g perm = paired_entries (bipartite g) (row_at perm)

-- a pattern within the limits, whose pairs are a largest matching; perm holds none or the row of an entry of each
-- column
pub record IsLargestOf (g : Pattern) (perm : List ℕ) : Type 0 where
  pub few : g.n ≤ max_columns
  pub few_entries : entries g ≤ max_general
  pub pointers : length g.col_ptr ≡ g.n + 1
  pub in_order : Columns g.n g.col_ptr g.row_idx
  pub places : length perm ≡ g.n
  pub stand : (j : ℕ) → j < g.n → row_at perm j ≢ none → IsEntry g (row_at perm j) j
  pub largest : Largest (bipartite g) (pairs g perm)

-- the slices for the marks and the count
pub record Room (g : Pattern) (s : Slices) : Type 0 where
  pub columns : length s.columns ≡ g.n
  pub rows : length s.rows ≡ g.n
  pub matched : length s.matched ≡ 1

-- accepted exactly if this holds
abbrev pub Exactly : Pattern → List ℕ → Slices → ℕ → Type 0
Exactly g perm s number = (number ≡ accepted) ↔ (IsLargestOf g perm × Room g s)

-- ---- what the marks show
-- an alternating path leads to column j from a column without a row: by an entry to a row, and on to the row's column
pub data Reached (g : Pattern) (perm : List ℕ) : ℕ → Type 0 where
  begins : {j : ℕ} → j < g.n → row_at perm j ≡ none → Reached g perm j
  goes : {j : ℕ} (k : ℕ) → k < entries g → Reached g perm (column_of g k) → j < g.n → row_at perm j ≡ row_of g k
      → Reached g perm j

-- an entry of such a column is in row i
pub record ReachedRow (g : Pattern) (perm : List ℕ) (i : ℕ) : Type 0 where
  pub entry : ℕ
  pub within : entry < entries g
  pub row : row_of g entry ≡ i
  pub column : Reached g perm (column_of g entry)

-- some marked column has row i
pub record HeldBy (g : Pattern) (perm columns : List ℕ) (i : ℕ) : Type 0 where
  pub column : ℕ
  pub within : column < g.n
  pub row : row_at perm column ≡ i
  pub marked : get_or columns column 0 ≡ 1

-- how many are marked
abbrev pub marks_in : ℕ → List ℕ → ℕ
marks_in n list = sum_to n (λ i. get_or list i 0)

-- the marks are 1 exactly where an alternating path leads, and show how many columns stay empty in every matching
pub record Shown (g : Pattern) (perm : List ℕ) (s : Slices) : Type 0 where
  pub column_length : length s.columns ≡ g.n
  pub row_length : length s.rows ≡ g.n
  pub column_marks : (j : ℕ) → j < g.n → (get_or s.columns j 0 ≡ 1) ↔ Reached g perm j
  pub row_marks : (i : ℕ) → i < g.n → (get_or s.rows i 0 ≡ 1) ↔ ReachedRow g perm i
  pub column_bits : (j : ℕ) → j < g.n → get_or s.columns j 0 ≤ 1
  pub row_bits : (i : ℕ) → i < g.n → get_or s.rows i 0 ≤ 1
  -- every entry of a marked column is in a marked row, every marked row is paired with a marked column
  pub closed : (k : ℕ) → k < entries g → get_or s.columns (column_of g k) 0 ≡ 1 → get_or s.rows (row_of g k) 0 ≡ 1
  pub held : (i : ℕ) → i < g.n → get_or s.rows i 0 ≡ 1 → HeldBy g perm s.columns i
  -- the count is that of the pairs; the marked columns less the marked rows are the columns without a row
  pub count : s.matched ≡ size (bipartite g) (pairs g perm) ∷ []
  pub short : marks_in g.n s.columns + size (bipartite g) (pairs g perm) ≡ g.n + marks_in g.n s.rows
  -- at least that many stay empty in every matching
  pub empty : (R : ℕ → Bool) → IsMatching (bipartite g) R
      → size (bipartite g) R + marks_in g.n s.columns ≤ g.n + marks_in g.n s.rows

-- of what an accepted call leaves
abbrev pub Shows : Pattern → List ℕ → ℕ → Slices → Type 0
Shows g perm number after = number ≡ accepted → Shown g perm after

-- ---- our own matches
-- perm is what a call of `hungarian_match` left on this pattern with some costs, which are doubles: whatever the slices
-- held before, the call answered 0 and left this perm
pub record Ours (g : Pattern) (perm : List ℕ) : Type 0 where
  pub cost : List Float
  pub doubles : Doubles (with_costs g cost)
  pub before : MatchSlices
  pub number : fault_of (match_outcome (with_costs g cost) before).answer ≡ accepted
  pub left : perm ≡ (match_outcome (with_costs g cost) before).after.perm

abbrev pub OursAccepted : Pattern → List ℕ → Slices → ℕ → Type 0
OursAccepted g perm s number = Ours g perm → Room g s → number ≡ accepted

-- ---- all that `check_largest` promises, of the pattern, perm, the slices lent, its number and the slices left
pub record Promises (g : Pattern) (perm : List ℕ) (before : Slices) (r : ℕ) (after : Slices) : Type 0 where
  -- the number and the slices left are the definition's
  pub outcome : outcome_is r after ≡ largest_outcome g perm before
  -- the number is one of the call's list
  pub number : OneOf largest_numbers r
  -- 0 exactly for the largest matchings
  pub exactly : Exactly g perm before r
  -- the marks show why no matching has more pairs
  pub shows : Shows g perm r after
  -- our own matches are accepted
  pub ours : OursAccepted g perm before r
