-- SPECIFICATION 6.2: The cost graph of a general matrix that is stored by columns: which places each of its columns
-- has.
use Rattle.std.specs.Prelude.{Bool, ◌&&◌, List, [], ◌∷◌, ◌++◌, ℕ, zero, suc, ◌+◌, ◌-◌, Float, get_or}
use Rattle.std.specs.Float.{nan}
use Rattle.std.specs.Float.Ieee.{ne}
use Rattle.std.specs.Float.Ieee.Scale.{finite}
use Rattle.float64.specs.Constants as Constants
use Rattle.slices.specs.Lists.{keep}
use Rattle.mc64_columns.specs.Columns.{largest}
use Rattle.sparse.specs.Pattern.{start, end}
use Rattle.sparse.specs.Matrix.{Matrix}
use Rattle.mc64_columns.specs.Graphs.{GraphColumns}

-- ---- one column of the graph
-- a value that is finite and not zero is kept
unfoldable pub is_kept : Float → Bool
is_kept x = finite x && ne x Constants.zero

-- the kept places among `count` of them from `from` on, in stored order
unfoldable pub kept_places : List Float → ℕ → ℕ → List ℕ
kept_places values from zero = []
kept_places values from (suc count) =
    kept_places values from count ++ keep (is_kept (get_or values (from + count) nan)) (from + count)

-- those of column c
abbrev pub places_of : Matrix → ℕ → List ℕ
places_of m c = let p = m.pattern in kept_places m.values (start p c) (end p c - start p c)

-- the largest log of a column; 0.0 for an empty one
unfoldable pub largest_log : List Float → Float
largest_log [] = Constants.zero
largest_log (x ∷ l) = largest (x ∷ l)

-- the columns of the graph
abbrev pub kept_columns : Matrix → GraphColumns
kept_columns m = record { places = places_of m; row = λ c k. get_or m.pattern.row_idx k 0; top = largest_log }
