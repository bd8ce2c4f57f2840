-- SPECIFICATION 8.1: The largest size in each row of a symmetric matrix whose lower triangle is stored by columns. A
-- walk over the columns and their entries in stored order raises the maximum of the entry's row and, for its mirror, of
-- its column. Each kind of factor defines the size of an entry.
use Rattle.std.specs.Prelude.{cond, List, ℕ, zero, suc, ◌-◌, Float, get_or, set, replicate}
use Rattle.std.specs.Float.{nan}
use Rattle.std.specs.Float.Ieee.{lt}
use Rattle.float64.specs.Constants as Constants
use Rattle.sparse.specs.Pattern.{start, end}
use Rattle.sparse.specs.Matrix.{Matrix}

-- the new number if it is above the old one; a NaN never is
abbrev pub larger : Float → Float → Float
larger old new = cond (lt old new) new old

unfoldable pub raise : List Float → ℕ → Float → List Float
raise maxima i size = set maxima i (larger (get_or maxima i nan) size)

-- an entry of row i in column j
abbrev pub enter : ℕ → ℕ → Float → List Float → List Float
enter i j size maxima = raise (raise maxima i size) j size

-- `count` entries of column j from place k on
unfoldable pub enter_column : (ℕ → Float) → List ℕ → ℕ → ℕ → ℕ → List Float → List Float
enter_column size rows j zero k maxima = maxima
enter_column size rows j (suc count) k maxima =
    enter_column size rows j count (suc k) (enter (get_or rows k 0) j (size k) maxima)

-- `count` columns from column j on; size j k is the size of the entry at place k of column j
unfoldable pub enter_columns : (ℕ → ℕ → Float) → Matrix → ℕ → ℕ → List Float → List Float
unfolding enter_column
enter_columns size m zero j maxima = maxima
enter_columns size m (suc count) j maxima =
    let p = m.pattern in
    enter_columns size m count (suc j)
    (enter_column (size j) p.row_idx j (end p j - start p j) (start p j) maxima)

-- the maxima of all rows
unfoldable pub row_maxima : (ℕ → ℕ → Float) → Matrix → List Float
unfolding enter_columns
row_maxima size m = enter_columns size m m.pattern.n 0 (replicate m.pattern.n Constants.zero)
