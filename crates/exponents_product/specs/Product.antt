-- SPECIFICATION 6.4: under the whole-number profile no complete choice of entries has a product of magnitudes more than
-- 2 ^ (n / 32768) times that of a complete match. Said of exact numbers: a size is a magnitude in units of 2 ^ -1074,
-- and n of them are in each product; both products are taken to the power 65,536, and the factor with them.
use Rattle.std.specs.Prelude.{◌≡◌, Bool, ◌&&◌, ◌||◌, List, ℕ, zero, suc, ◌*◌, ◌^◌, ◌≤◌, ◌<◌, eqb, length, get_or}
use Rattle.matching.specs.Sum.{sum_to, or_zero}
use Rattle.sparse.specs.Matrix.{Matrix}
use Rattle.sparse.specs.Pattern.{column_of}
use Rattle.exponents_bounds.specs.Bounds.{entry_magnitude}

-- ---- what is at (i, j)
-- stored entry k of a general matrix is at row i and column j
abbrev pub entry_at : Matrix → ℕ → ℕ → ℕ → Bool
entry_at m i j k = eqb (get_or m.pattern.row_idx k 0) i && eqb (column_of m.pattern k) j

-- entry k of a symmetric matrix, stored as its lower triangle, is at (i, j) if it or its mirror is: if it is stored at
-- row i and column j or at row j and column i
abbrev pub either_at : Matrix → ℕ → ℕ → ℕ → Bool
either_at m i j k = entry_at m i j k || entry_at m j i k

-- the size of the entry at (i, j), the only one that passes the test: 0 if none is stored, or a zero
unfoldable pub size_by : (ℕ → Bool) → Matrix → ℕ
unfolding sum_to
size_by at m = sum_to (length m.pattern.row_idx) (λ k. or_zero (at k) (entry_magnitude m k))

-- of a general matrix
abbrev pub general_size : Matrix → ℕ → ℕ → ℕ
general_size m i j = size_by (entry_at m i j) m

-- in a symmetric matrix: that of the entry at (j, i) too
abbrev pub symmetric_size : Matrix → ℕ → ℕ → ℕ
symmetric_size m i j = size_by (either_at m i j) m

-- ---- complete choices and their products
-- w 0 * … * w (n - 1)
unfoldable pub product_to : ℕ → (ℕ → ℕ) → ℕ
product_to zero w = 1
product_to (suc n) w = product_to n w * w n

-- a row for each of n columns, no row twice: the entries (rows 0, 0), …, (rows (n - 1), n - 1)
pub record CompleteChoice (n : ℕ) (rows : ℕ → ℕ) : Type 0 where
  pub inside : (j : ℕ) → j < n → rows j < n
  pub once : (i j : ℕ) → i < n → j < n → rows i ≡ rows j → i ≡ j

-- the product of their sizes, where `size i j` is the size at (i, j)
abbrev pub product_of : ℕ → (ℕ → ℕ → ℕ) → (ℕ → ℕ) → ℕ
product_of n size rows = product_to n (λ j. size (rows j) j)

-- the choice that a match writes down: perm j is the row of column j
abbrev pub rows_of : List ℕ → ℕ → ℕ
rows_of perm j = get_or perm j 0

-- 2 ^ (n / 32768), to the power 65,536
abbrev pub allowance : ℕ → ℕ
allowance n = 2 ^ (2 * n)

-- the match is a complete choice of nonzero entries, and the product of any other is at most 2 ^ (n / 32768) times its
-- own, and less than that unless n is 0
pub record NearLargest (n : ℕ) (size : ℕ → ℕ → ℕ) (perm : List ℕ) : Type 0 where
  pub complete : CompleteChoice n (rows_of perm)
  pub some : (j : ℕ) → j < n → 0 < size (rows_of perm j) j
  pub most : (rows : ℕ → ℕ) → CompleteChoice n rows
      → product_of n size rows ^ 65536 ≤ allowance n * product_of n size (rows_of perm) ^ 65536
  pub below : 0 < n → (rows : ℕ → ℕ) → CompleteChoice n rows
      → product_of n size rows ^ 65536 < allowance n * product_of n size (rows_of perm) ^ 65536
