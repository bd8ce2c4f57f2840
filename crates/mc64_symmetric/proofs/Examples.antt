-- The definitions on small matrices, by computation: a dropped zero, mirrored entries, an empty column, equal logs, and the order of the
-- last refusals.
use mathlib.Core.Path.{◌≡◌, refl}
use mathlib.Core.Bool.{false}
use mathlib.Core.List.{List, [], ◌∷◌}
use lib.Ieee.{Float, nan, inf, binary64, of_bits, sub, add, neg, sum, round, units, odd, climb, size, span, eq, lt}
use Rattle.float64.specs.Constants as Constants
use Rattle.sparse.specs.Fault.{first_of}
use Rattle.float64.specs.Number.{magnitude, units_per_one as units_per_one}
use Rattle.cost_limit.specs.Range.{in_log_range}
use Rattle.mc64_columns.specs.Columns.{largest, largest_from, normalised}
use Rattle.sparse.specs.Matrix.{Matrix, matrix}
use Rattle.matching.specs.Sum.{sum_to}
use Rattle.sparse.specs.Pattern.{column_of}
use Rattle.mc64_columns.specs.Graphs.{joined, graph_pointers, graph_rows, graph_costs, graph_largest}
use Rattle.mc64_symmetric.specs.Graph.{places_to, mirrored_columns}
use Rattle.mc64_symmetric.specs.Call.{values_fault}

abbrev one : Float
one = of_bits binary64 0x3FF0_0000_0000_0000

abbrev two : Float
two = of_bits binary64 0x4000_0000_0000_0000

abbrev three : Float
three = of_bits binary64 0x4008_0000_0000_0000

abbrev four : Float
four = of_bits binary64 0x4010_0000_0000_0000

abbrev five : Float
five = of_bits binary64 0x4014_0000_0000_0000

-- 2^35
abbrev limit : Float
limit = of_bits binary64 0x4220_0000_0000_0000

-- columns {0, 2}, {1 with value 0}, {2}; the zero's log is a NaN
abbrev small : Matrix
small = matrix 3 (0 ∷ 2 ∷ 3 ∷ 4 ∷ []) (0 ∷ 2 ∷ 1 ∷ 2 ∷ []) (two ∷ three ∷ Constants.zero ∷ one ∷ [])

abbrev logs : List Float
logs = one ∷ five ∷ nan ∷ two ∷ []

pointers : graph_pointers (mirrored_columns small) 3 ≡ 0 ∷ 2 ∷ 2 ∷ 4 ∷ []
unfolding joined places_to column_of sum_to of_bits eq
pointers = refl

rows : graph_rows (mirrored_columns small) 3 ≡ 0 ∷ 2 ∷ 0 ∷ 2 ∷ []
unfolding joined places_to column_of sum_to of_bits eq
rows = refl

costs : graph_costs (mirrored_columns small) logs 3 ≡ four ∷ Constants.zero ∷ Constants.zero ∷ three ∷ []
unfolding joined places_to column_of sum_to of_bits eq normalised largest largest_from lt sub add neg sum round units odd climb size span
costs = refl

tops : graph_largest (mirrored_columns small) logs 3 ≡ five ∷ Constants.minus_infinity ∷ five ∷ []
unfolding joined places_to column_of sum_to of_bits eq largest largest_from lt
tops = refl

-- the first of equal logs: 0.0 before -0.0, and the other way round
equals : largest (Constants.zero ∷ neg Constants.zero ∷ []) ≡ Constants.zero
unfolding largest largest_from lt neg of_bits
equals = refl

equals_back : largest (neg Constants.zero ∷ Constants.zero ∷ []) ≡ neg Constants.zero
unfolding largest largest_from lt neg of_bits
equals_back = refl

-- 9 before 8 at one place, and the earlier place first
both_wrong : values_fault 4096 (one ∷ inf false ∷ []) (one ∷ nan ∷ []) ≡ 9
unfolding values_fault first_of in_log_range magnitude units_per_one eq lt of_bits
both_wrong = refl

earlier : values_fault 4096 (one ∷ nan ∷ []) (limit ∷ one ∷ []) ≡ 8
unfolding values_fault first_of in_log_range magnitude units_per_one eq lt of_bits
earlier = refl

-- a zero's log is not looked at
unread : values_fault 4096 (Constants.zero ∷ neg Constants.zero ∷ []) (nan ∷ limit ∷ []) ≡ 0
unfolding values_fault first_of in_log_range magnitude units_per_one eq lt of_bits neg
unread = refl
