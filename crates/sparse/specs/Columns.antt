-- SPECIFICATION 4.1: What an accepted matrix is. proofs/Accepted.antt shows that `validate` answers 0 exactly for
-- these.
use Rattle.std.specs.Prelude.{◌≡◌, List, ℕ, suc, ◌+◌, ◌≤◌, ◌<◌, length, get_or}
use Rattle.limits.specs.Limits.{max_columns}
use Rattle.sparse.specs.Matrix.{Matrix}

-- within the limits, and every slice has its length
pub record Sizes (limit : ℕ) (m : Matrix) : Type 0 where
  pub columns : m.pattern.n ≤ max_columns
  pub entries : length m.pattern.row_idx ≤ limit
  pub colptrs : length m.pattern.col_ptr ≡ m.pattern.n + 1
  pub stored : length m.values ≡ length m.pattern.row_idx

-- the pointers of n columns over `count` entries
pub record Pointers (n : ℕ) (col_ptr : List ℕ) (count : ℕ) : Type 0 where
  pub first : get_or col_ptr 0 0 ≡ 0
  pub last : get_or col_ptr n 0 ≡ count
  pub rises : (j : ℕ) → j < n → get_or col_ptr j 0 ≤ get_or col_ptr (suc j) 0

-- n columns of rows below n, strictly rising in each
pub record Columns (n : ℕ) (col_ptr rows : List ℕ) : Type 0 where
  pub pointers : Pointers n col_ptr (length rows)
  pub inside : (k : ℕ) → k < length rows → get_or rows k 0 < n
  pub rising : (j k : ℕ) → j < n → get_or col_ptr j 0 ≤ k → suc k < get_or col_ptr (suc j) 0
      → get_or rows k 0 < get_or rows (suc k) 0

-- no entry above the diagonal
pub record Lower (n : ℕ) (col_ptr rows : List ℕ) : Type 0 where
  pub below : (j k : ℕ) → j < n → get_or col_ptr j 0 ≤ k → k < get_or col_ptr (suc j) 0 → j ≤ get_or rows k 0
