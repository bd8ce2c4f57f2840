-- The marks of a pairing, and its faults: SPECIFICATION 5.18. Columns are marked in rounds: first those without a row,
-- then each whose row has an entry of a marked column. After n rounds no round marks more.
use Rattle.std.specs.Prelude.{Bool, true, false, not, ◌&&◌, ◌||◌, List, ℕ, zero, suc, eqb, ltb, get_or}
use Rattle.limits.specs.Limits.{none}
use Rattle.refusal.specs.Refusal.{incomplete_matching, not_largest}
use Rattle.slices.specs.Lists.{tabulate}
use Rattle.sparse.specs.Fault.{unless, or_else}
use Rattle.sparse.specs.Pattern.{Pattern, row_of, column_of, entries}
use Rattle.match_check.specs.Check.{every_of, some_of, taken_before, row_fresh, pair_stands}

-- ---- what is checked
-- the row of column j, or none
abbrev pub row_at : List ℕ → ℕ → ℕ
row_at perm j = get_or perm j 0

-- column j has no row
abbrev pub is_free : List ℕ → ℕ → Bool
is_free perm j = eqb (row_at perm j) none

-- ---- 30
-- column j has no row, or a row of the pattern that no column before it has, by an entry
abbrev pub pair_fits : Pattern → List ℕ → ℕ → Bool
pair_fits g perm j = is_free perm j || (ltb (row_at perm j) g.n && (row_fresh perm j && pair_stands g perm j))

unfoldable pub pairs_fit : Pattern → List ℕ → Bool
pairs_fit g perm = every_of g.n (pair_fits g perm) 0

-- ---- the marks
abbrev pub mark : Bool → ℕ
mark true = 1
mark false = 0

-- one of the entries of row i is of a marked column
unfoldable pub is_met : Pattern → List ℕ → ℕ → Bool
unfolding column_of
is_met g columns i = some_of (entries g) (λ k. eqb (row_of g k) i && eqb (get_or columns (column_of g k) 0) 1) 0

-- the columns that are marked after this many rounds: 1 if marked, else 0
unfoldable pub columns_after : Pattern → List ℕ → ℕ → List ℕ
unfolding is_met
columns_after g perm zero = tabulate g.n (λ j. mark (is_free perm j))
columns_after g perm (suc rounds) =
    tabulate g.n (λ j. mark (is_free perm j || is_met g (columns_after g perm rounds) (row_at perm j)))

unfoldable pub marked_columns : Pattern → List ℕ → List ℕ
unfolding columns_after
marked_columns g perm = columns_after g perm g.n

-- the rows that have an entry of a marked column
unfoldable pub marked_rows : Pattern → List ℕ → List ℕ
unfolding marked_columns
marked_rows g perm = tabulate g.n (λ i. mark (is_met g (marked_columns g perm) i))

-- ---- 33
-- row i is not marked, or some column has it
abbrev pub is_held : Pattern → List ℕ → ℕ → Bool
is_held g perm i = not (eqb (get_or (marked_rows g perm) i 0) 1) || taken_before perm g.n i

unfoldable pub is_largest : Pattern → List ℕ → Bool
unfolding marked_rows
is_largest g perm = every_of g.n (is_held g perm) 0

-- ---- the whole check
-- 30, then 33, of an accepted pattern
unfoldable pub pairing_fault : Pattern → List ℕ → ℕ
unfolding pairs_fit is_largest
pairing_fault g perm =
    or_else (unless (pairs_fit g perm) incomplete_matching) (unless (is_largest g perm) not_largest)
