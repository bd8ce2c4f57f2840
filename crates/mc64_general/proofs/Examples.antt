-- The definitions on a small matrix, by computation: a dropped zero, a dropped infinity, an empty column, and what is refused.
use mathlib.Core.Path.{◌≡◌, refl}
use mathlib.Core.Bool.{false}
use mathlib.Core.List.{List, [], ◌∷◌}
use lib.Ieee.{Float, nan, inf, binary64, of_bits, sub, add, neg, sum, round, units, odd, climb, size, span, ne, eq, lt}
use Rattle.float64.specs.Constants as Constants
use Rattle.sparse.specs.Fault.{first_of}
use Rattle.float64.specs.Number.{units_per_one, magnitude}
use Rattle.cost_limit.specs.Range.{in_log_range}
use Rattle.mc64_columns.specs.Columns.{largest, largest_from, normalised}
use Rattle.sparse.specs.Matrix.{Matrix, matrix}
use Rattle.mc64_columns.specs.Graphs.{joined, graph_pointers, graph_rows, graph_costs, graph_largest}
use Rattle.mc64_general.specs.Graph.{is_kept, kept_places, largest_log, kept_columns}
use Rattle.mc64_general.specs.Call.{logs_fault}

abbrev four : Float
four = of_bits binary64 0x4010_0000_0000_0000

abbrev five : Float
five = of_bits binary64 0x4014_0000_0000_0000

-- 2^35
abbrev limit : Float
limit = of_bits binary64 0x4220_0000_0000_0000

-- columns {0, 1 with value 0, 2}, {1 with value infinity}, {0}; the logs of dropped entries are out of range
abbrev small : Matrix
small = matrix 3 (0 ∷ 3 ∷ 4 ∷ 5 ∷ []) (0 ∷ 1 ∷ 2 ∷ 1 ∷ 0 ∷ []) (Constants.two ∷ Constants.zero ∷ Constants.two ∷ inf false ∷ Constants.one ∷ [])

abbrev logs : List Float
logs = Constants.one ∷ nan ∷ five ∷ limit ∷ Constants.two ∷ []

pointers : graph_pointers (kept_columns small) 3 ≡ 0 ∷ 2 ∷ 2 ∷ 3 ∷ []
unfolding joined kept_places is_kept of_bits ne eq
pointers = refl

rows : graph_rows (kept_columns small) 3 ≡ 0 ∷ 2 ∷ 0 ∷ []
unfolding joined kept_places is_kept of_bits ne eq
rows = refl

costs : graph_costs (kept_columns small) logs 3 ≡ four ∷ Constants.zero ∷ Constants.zero ∷ []
unfolding joined kept_places is_kept of_bits ne eq normalised largest largest_from lt sub add neg sum round units odd climb size span
costs = refl

tops : graph_largest (kept_columns small) logs 3 ≡ five ∷ Constants.zero ∷ Constants.two ∷ []
unfolding joined kept_places is_kept of_bits ne eq largest_log largest largest_from lt
tops = refl

-- the logs of dropped values are not looked at
unread : logs_fault 4096 (Constants.zero ∷ neg Constants.zero ∷ inf false ∷ nan ∷ []) (nan ∷ limit ∷ nan ∷ limit ∷ []) ≡ 0
unfolding logs_fault first_of is_kept in_log_range magnitude units_per_one ne eq lt of_bits neg
unread = refl

-- the limit itself is refused, and a NaN
at_limit : logs_fault 4096 (Constants.one ∷ Constants.two ∷ []) (Constants.one ∷ limit ∷ []) ≡ 8
unfolding logs_fault first_of is_kept in_log_range magnitude units_per_one ne eq lt of_bits
at_limit = refl

not_a_log : logs_fault 4096 (Constants.one ∷ []) (nan ∷ []) ≡ 8
unfolding logs_fault first_of is_kept in_log_range magnitude units_per_one ne eq lt of_bits
not_a_log = refl
