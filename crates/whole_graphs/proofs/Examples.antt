-- A small symmetric matrix by computation: entries -8 and 3 in the first column, 1024 in the second. Their logarithms are 196,608, 103,872 and 655,360.
use mathlib.Core.Path.{◌≡◌, refl}
use mathlib.Core.Bool.{true, false}
use mathlib.Core.List.{[], ◌∷◌}
use lib.IntN.{pos}
use lib.Ieee.{fin, nan, inf, binary64, of_bits, of_int, sub, add, neg, sum, round, units, odd, climb, size, span, eq, lt}
use Rattle.float64.specs.Number.{magnitude, units_per_one}
use Rattle.float64.specs.Constants as Constants
use Rattle.sparse.specs.Fault.{first_of}
use Rattle.sparse.specs.Matrix.{Matrix, matrix}
use Rattle.whole_log.specs.Log.{whole_log}
use Rattle.matching.specs.Sum.{sum_to}
use Rattle.sparse.specs.Pattern.{column_of}
use Rattle.mc64_columns.specs.Columns.{value_logs, largest, largest_from, normalised}
use Rattle.mc64_columns.specs.Graphs.{joined, graph_rows, graph_costs}
use Rattle.mc64_symmetric.specs.Graph.{places_to, mirrored_columns}
use Rattle.whole_graphs.specs.Graphs.{finite_fault}

-- -8, 3 and 1024
abbrev small : Matrix
small = matrix 3 (0 ∷ 2 ∷ 3 ∷ 3 ∷ []) (1 ∷ 2 ∷ 2 ∷ []) (fin true 1 (pos 3) ∷ fin false 3 (pos 0) ∷ fin false 1 (pos 10) ∷ [])

logs : value_logs small.values ≡ of_int binary64 (pos 196608) ∷ of_int binary64 (pos 103872) ∷ of_int binary64 (pos 655360) ∷ []
unfolding whole_log magnitude units_per_one
logs = refl

rows : graph_rows (mirrored_columns small) 3 ≡ 1 ∷ 2 ∷ 0 ∷ 2 ∷ 0 ∷ 1 ∷ []
unfolding joined places_to column_of sum_to of_bits eq
rows = refl

-- each column's largest logarithm minus its own: exact, and +0.0 for the largest
costs : graph_costs (mirrored_columns small) (value_logs small.values) 3
    ≡ of_int binary64 (pos 0) ∷ of_int binary64 (pos 92736) ∷ of_int binary64 (pos 458752) ∷ of_int binary64 (pos 0) ∷ of_int binary64
    (pos 551488) ∷ of_int binary64 (pos 0) ∷ []
unfolding whole_log magnitude units_per_one joined places_to column_of sum_to of_bits of_int eq normalised largest largest_from lt sub add neg sum round units odd climb
    size span
costs = refl

-- 9 at the first value that is not finite; zeros are no fault
not_finite : finite_fault (Constants.zero ∷ inf true ∷ nan ∷ []) ≡ 9
unfolding finite_fault first_of of_bits
not_finite = refl
