-- What the functions of the call require.
use Rattle.std.specs.Prelude.{◌≡◌, true, List, ℕ, ◌+◌, ◌≤◌, ◌<◌, ℤ, length, get_or}
use Rattle.sparse.specs.Columns.{Columns}
use Rattle.sparse.specs.Pattern.{Pattern}
use Rattle.exponents_powers.specs.Power.{within_limit, Exponents}
use Rattle.exponents_apply.specs.Apply.{exponent_at}

abbrev pub Within : List ℤ → Type 0
Within l = (i : ℕ) → i < length l → within_limit (exponent_at l i) ≡ true

-- every place has a value and a row with an exponent within the limit
pub record Places (rows : List ℕ) (r : List ℤ) (values : List ℕ) : Type 0 where
  pub stored : length values ≡ length rows
  pub inside : (k : ℕ) → k < length rows → get_or rows k 0 < length r
  pub within : Within r

-- the matrix and the exponents have passed their tests
pub record Tested (m : Pattern) (e : Exponents) (values : List ℕ) : Type 0 where
  pub colptrs : length m.col_ptr ≡ m.n + 1
  pub columns : Columns m.n m.col_ptr m.row_idx
  pub places : Places m.row_idx e.rows values
  pub exponents : length e.columns ≡ m.n
  pub within : Within e.columns

-- the places from `from` up to `to` are f's, all others as they were
pub record Written (f : ℕ → ℕ) (from to : ℕ) (before after : List ℕ) : Type 0 where
  pub same : length after ≡ length before
  pub done : (k : ℕ) → from ≤ k → k < to → get_or after k 0 ≡ f k
  pub under : (k : ℕ) → k < from → get_or after k 0 ≡ get_or before k 0
  pub over : (k : ℕ) → to ≤ k → get_or after k 0 ≡ get_or before k 0
