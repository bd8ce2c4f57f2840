-- What the walks over the entries require.
use Rattle.std.specs.Prelude.{◌≡◌, List, ℕ, ◌≤◌, ◌<◌, Float, length, get_or}
use Rattle.limits.specs.Limits.{max_symmetric}
use Rattle.sparse.specs.Columns.{Sizes, Columns}
use Rattle.sparse.specs.Matrix.{Matrix}

-- a matrix that was accepted
pub record Accepted (m : Matrix) : Type 0 where
  pub sizes : Sizes max_symmetric m
  pub columns : Columns m.pattern.n m.pattern.col_ptr m.pattern.row_idx

-- places from `from` up to `to`, whose rows and column have a maximum each
pub record Stretch (n : ℕ) (rows : List ℕ) (values : List Float) (j from to : ℕ) : Type 0 where
  pub column : j < n
  pub up : from ≤ to
  pub within : to ≤ length rows
  pub stored : length values ≡ length rows
  pub inside : (k : ℕ) → k < length rows → get_or rows k 0 < n
