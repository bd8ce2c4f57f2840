-- SPECIFICATION 6.1: The cost graph of a symmetric matrix whose lower triangle is stored by columns: which places each
-- of its columns has, and the row of each.
use Rattle.std.specs.Prelude.{Bool, not, cond, ◌&&◌, ◌||◌, List, [], ◌++◌, ℕ, zero, suc, eqb, get_or}
use Rattle.std.specs.Float.{nan}
use Rattle.std.specs.Float.Ieee.{eq}
use Rattle.float64.specs.Constants as Constants
use Rattle.slices.specs.Lists.{keep}
use Rattle.mc64_columns.specs.Columns.{largest}
use Rattle.sparse.specs.Pattern.{row_of, column_of, entries}
use Rattle.sparse.specs.Matrix.{Matrix}
use Rattle.mc64_columns.specs.Graphs.{GraphColumns}

-- ---- one column of the graph
-- a place whose value is not zero is kept
abbrev pub kept : Matrix → ℕ → Bool
kept m k = not (eq (get_or m.values k nan) Constants.zero)

-- column c has the kept places of row c and of column c
abbrev pub touches : Matrix → ℕ → ℕ → Bool
touches m c k = kept m k && (eqb (row_of m.pattern k) c || eqb (column_of m.pattern k) c)

-- those among the first k, in stored order
unfoldable pub places_to : Matrix → ℕ → ℕ → List ℕ
places_to m c zero = []
places_to m c (suc k) = places_to m c k ++ keep (touches m c k) k

-- all of them
abbrev pub places_of : Matrix → ℕ → List ℕ
places_of m c = places_to m c (entries m.pattern)

-- a place of row c is mirrored: its column becomes the row
abbrev pub other_end : Matrix → ℕ → ℕ → ℕ
other_end m c k = cond (eqb (row_of m.pattern k) c) (column_of m.pattern k) (row_of m.pattern k)

-- the columns of the graph; the largest log of an empty one is minus infinity
abbrev pub mirrored_columns : Matrix → GraphColumns
mirrored_columns m = record { places = places_of m; row = other_end m; top = largest }
