-- Small matrices by computing: a match that others made may have no exponents (`far_refused`), neither bound can be sharper for our own
-- (`small_scaled`), and a symmetric matrix is scaled to one that is not (`triangle_scaled`).
use Rattle.std.proofs.Common.{Result}
use mathlib.Core.Path.{◌≡◌, refl}
use mathlib.Core.Bool.{false}
use mathlib.Core.List.{List, [], ◌∷◌, map}
use Prim.Native.Nat.{ℕ}
use lib.IntN.{ℤ, pos, negsuc}
use lib.Ieee.{Float, fin, nan, binary64, of_int, of_bits, add, sub, neg, lt, le, eq, ne}
use lib.ListN.{get_or, replicate}
use Rattle.refusal.specs.Refusal.{accepted, exponent_range}
use Rattle.refusal.specs.Number.{fault_of}
use Rattle.slices.specs.Outcome.{Outcome, outcome_is}
use Rattle.float64.specs.Number.{magnitude, units_per_one, whole_of}
use Rattle.slices.specs.Lists.{tabulate}
use Rattle.sparse.specs.Fault.{first_of}
use Rattle.sparse.specs.Matrix.{Matrix, matrix}
use Rattle.sparse.specs.Validate.{size_fault, pointer_fault, general_columns, general_column, frame_fault, lower_column, rising_column, symmetric_columns}
use Rattle.sparse.specs.Validate.{pattern_fault, symmetric_fault, general_fault}
use Rattle.matching.specs.Sum.{sum_to}
use Rattle.sparse.specs.Pattern.{column_of}
use Rattle.hungarian.specs.Graph.{CostGraph, graph_of}
use Rattle.hungarian.specs.Test.{graph_fault, cost_fault}
use Rattle.hungarian.specs.Match.{hungarian_match}
use Rattle.hungarian_match.specs.Call as Match
use Rattle.hungarian.specs.declared.Counts.{Counts}
use Rattle.match_check.specs.Check.{claim, every_of, some_of, check_fault}
use Rattle.cost_limit.specs.Range.{in_range}
use Rattle.whole_log.specs.Log.{whole_log}
use Rattle.mc64_columns.specs.Columns.{largest, largest_from, normalised}
use Rattle.mc64_columns.specs.Graphs as Graphs
use Rattle.mc64_general.specs.Graph.{is_kept, kept_places, largest_log}
use Rattle.mc64_symmetric.specs.Graph.{places_to}
use Rattle.whole_graphs.specs.Graphs.{finite_fault, general_input_fault, symmetric_input_fault, whole_general_graph, whole_symmetric_graph, graph_left}
use Rattle.exponents_powers.specs.Power.{within_limit, scalable, scaled_bits, Exponents, exponents}
use Rattle.exponents.specs.Exponent.{floor_of, is_whole, exponent_of, factor_fits}
use Rattle.exponents.specs.Call.{duals, differences, lengths_fit, factors_fault, exponents_fault, make_exponents}
use Rattle.exponents_apply.specs.Apply.{apply_fault, limit_fault, values_fault, column_fault, scaled_values, apply_exponents}
use Rattle.exponents_bounds.specs.Bounds.{swapped}

-- ---- the matrix of the one entry 1
-- its graph: one entry of cost 0
abbrev one : CostGraph
one = graph_of 1 (0 ∷ 1 ∷ []) (0 ∷ []) (fin false 0 (pos 0) ∷ [])

-- a whole number as a double
abbrev whole : ℤ → List Float
whole z = of_int binary64 z ∷ []

-- u = 2 ^ 50 and v = -2 ^ 50: `check_match` accepts the match, and `exponents` refuses it. The largest log is 0
pub far_refused : (check_fault one (claim (0 ∷ []) (whole (pos 1125899906842624)) (whole (negsuc 1125899906842623))) ≡ accepted)
    × ((make_exponents 1 (duals (whole (pos 1125899906842624)) (whole (negsuc 1125899906842623)) (whole (pos 0))) (pos 0 ∷ [])
    (pos 0 ∷ [])).answer ≡ exponent_range)
unfolding check_fault graph_fault size_fault pointer_fault first_of general_columns general_column magnitude units_per_one every_of some_of of_int le add
    make_exponents exponents_fault lengths_fit factors_fault factor_fits is_whole within_limit exponent_of floor_of whole_of
far_refused = (refl, refl)

-- ---- three columns: 3/2 and 1 in the first, the same in the second, 1 alone in the third
abbrev bits : List ℕ
bits = 0x3FF8_0000_0000_0000 ∷ 0x3FF0_0000_0000_0000 ∷ 0x3FF8_0000_0000_0000 ∷ 0x3FF0_0000_0000_0000 ∷ 0x3FF0_0000_0000_0000 ∷ []

abbrev small : Matrix
small = matrix 3 (0 ∷ 2 ∷ 4 ∷ 5 ∷ []) (0 ∷ 1 ∷ 0 ∷ 1 ∷ 2 ∷ []) (map (of_bits binary64) bits)

abbrev zeros : ℕ → List ℕ
zeros n = replicate n 0

abbrev blanks : ℕ → List Float
blanks n = replicate n nan

abbrev builds : Outcome (Result ℕ ℕ) Graphs.Slices
builds = whole_general_graph small (Graphs.slices (zeros 4) (zeros 5) (blanks 5) (blanks 3) (zeros 13))

abbrev matches : Outcome (Result Counts ℕ) Match.Slices
matches = Match.match_outcome (graph_left 3 builds.after) (Match.slices (zeros 3) (blanks 3) (blanks 3) (zeros 37) (blanks 6))

abbrev makes : Outcome ℕ Exponents
makes = make_exponents 3 (duals matches.after.u matches.after.v builds.after.cmax) (pos 0 ∷ pos 0 ∷ pos 0 ∷ []) (pos 0 ∷ pos 0 ∷ pos 0 ∷ [])

-- rows 0, 0, 0 and columns -1, -1, 0
abbrev set : Exponents
set = exponents (pos 0 ∷ pos 0 ∷ pos 0 ∷ []) (negsuc 0 ∷ negsuc 0 ∷ pos 0 ∷ [])

-- each call accepts, and the values left are 3/4, 1/2, 3/4, 1/2 and 1
pub small_scaled : (fault_of builds.answer ≡ accepted) × (fault_of matches.answer ≡ accepted)
    × (get_or (Match.counts_left matches.answer []) 0 0 ≡ 3)
    × (makes ≡ outcome_is accepted set)
    × (apply_exponents small.pattern set bits ≡ outcome_is accepted
    (0x3FE8_0000_0000_0000 ∷ 0x3FE0_0000_0000_0000 ∷ 0x3FE8_0000_0000_0000 ∷ 0x3FE0_0000_0000_0000 ∷ 0x3FF0_0000_0000_0000 ∷ []))
unfolding whole_general_graph general_input_fault finite_fault frame_fault general_fault Graphs.slices_fit Graphs.built Graphs.joined kept_places is_kept
    largest_log largest largest_from normalised whole_log Match.match_outcome Match.finished Match.match_lengths hungarian_match graph_fault cost_fault in_range
    size_fault pointer_fault first_of general_columns general_column magnitude units_per_one of_int of_bits lt le eq ne add sub neg make_exponents
    exponents_fault lengths_fit factors_fault factor_fits is_whole within_limit exponent_of floor_of whole_of differences apply_exponents apply_fault
    pattern_fault limit_fault values_fault column_fault scaled_values tabulate column_of sum_to scalable scaled_bits
small_scaled = (refl, refl, refl, refl, refl)

-- ---- a symmetric matrix of two columns: 3 and 1 in the first, whose mirror is 1 in the second, which has no other
abbrev triangle_bits : List ℕ
triangle_bits = 0x4008_0000_0000_0000 ∷ 0x3FF0_0000_0000_0000 ∷ []

abbrev triangle : Matrix
triangle = matrix 2 (0 ∷ 2 ∷ 2 ∷ []) (0 ∷ 1 ∷ []) (map (of_bits binary64) triangle_bits)

abbrev triangle_builds : Outcome (Result ℕ ℕ) Graphs.Slices
triangle_builds = whole_symmetric_graph triangle (Graphs.slices (zeros 3) (zeros 4) (blanks 4) (blanks 2) (zeros 8))

abbrev triangle_matches : Outcome (Result Counts ℕ) Match.Slices
triangle_matches = Match.match_outcome (graph_left 2 triangle_builds.after) (Match.slices (zeros 2) (blanks 2) (blanks 2) (zeros 25) (blanks 4))

abbrev triangle_makes : Outcome ℕ Exponents
triangle_makes = make_exponents 2 (duals triangle_matches.after.u triangle_matches.after.v triangle_builds.after.cmax) (pos 0 ∷ pos 0 ∷ [])
    (pos 0 ∷ pos 0 ∷ [])

-- rows 0, 1 and columns -2, 0
abbrev triangle_set : Exponents
triangle_set = exponents (pos 0 ∷ pos 1 ∷ []) (negsuc 1 ∷ pos 0 ∷ [])

-- each call accepts; 3 becomes 3/4, and 1 becomes 1/2 where it is stored and 1 as its mirror: what is scaled is not symmetric
pub triangle_scaled : (fault_of triangle_builds.answer ≡ accepted) × (fault_of triangle_matches.answer ≡ accepted)
    × (get_or (Match.counts_left triangle_matches.answer []) 0 0 ≡ 2)
    × (triangle_makes ≡ outcome_is accepted triangle_set)
    × (apply_exponents triangle.pattern triangle_set triangle_bits ≡ outcome_is accepted (0x3FE8_0000_0000_0000 ∷ 0x3FE0_0000_0000_0000 ∷ []))
    × (apply_exponents triangle.pattern (swapped triangle_set) triangle_bits ≡ outcome_is accepted (0x3FE8_0000_0000_0000 ∷ 0x3FF0_0000_0000_0000 ∷ []))
unfolding whole_symmetric_graph symmetric_input_fault finite_fault frame_fault symmetric_fault symmetric_columns lower_column rising_column Graphs.slices_fit
    Graphs.built Graphs.joined places_to column_of sum_to largest largest_from normalised whole_log Match.match_outcome Match.finished Match.match_lengths
    hungarian_match graph_fault cost_fault in_range size_fault pointer_fault first_of general_columns general_column magnitude units_per_one of_int of_bits lt
    le eq ne add sub neg make_exponents exponents_fault lengths_fit factors_fault factor_fits is_whole within_limit exponent_of floor_of whole_of
    differences apply_exponents apply_fault pattern_fault limit_fault values_fault column_fault scaled_values tabulate scalable scaled_bits
triangle_scaled = (refl, refl, refl, refl, refl, refl)
