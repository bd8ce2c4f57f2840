-- Small inputs, by computing: a flat index, one without a sum, and equal sums that are zeros of both signs, the first of which counts.
use mathlib.Core.Path.{◌≡◌, refl}
use mathlib.Core.List.{List, [], ◌∷◌}
use lib.Ieee.{Float, binary64, of_bits, add, sub, div, neg, lt, eq}
use Rattle.limits.specs.Limits.{none}
use Rattle.float64.specs.Constants.{zero as fzero, one, minus_infinity}
use Rattle.float64.specs.Functions.{clamp_log}
use Rattle.sparse.specs.Matrix.{matrix}
use Rattle.matching.specs.Match.{Match, match_of}
use Rattle.matching.specs.Sum.{sum_to}
use Rattle.sparse.specs.Pattern.{column_of}
use Rattle.mc64_columns.specs.Columns.{largest_from}
use Rattle.mc64_symmetric.specs.Graph.{places_to}
use Rattle.factors_mc64.specs.Factors.{doubles_of, is_matched_row, log_factor}
use Rattle.factors_flat.specs.Flat.{Input, input, matched_by, sums_over, flattened, flat_factors}

abbrev minus_zero : Float
minus_zero = of_bits binary64 0x8000_0000_0000_0000

abbrev three : Float
three = of_bits binary64 0x4008_0000_0000_0000

abbrev minus_three : Float
minus_three = of_bits binary64 0xC008_0000_0000_0000

-- indices 0 and 1 are matched with the factors -0.0 and 0.0, index 2 is not
abbrev lost : Match Float
lost = match_of (0 ∷ 1 ∷ none ∷ []) (minus_zero ∷ fzero ∷ one ∷ []) (minus_zero ∷ fzero ∷ one ∷ []) (fzero ∷ fzero ∷ minus_infinity ∷ [])

-- entries (2, 0) and (2, 1)
abbrev edge : List Float → Input
edge logs = input lost (matrix 3 (0 ∷ 1 ∷ 2 ∷ 2 ∷ []) (2 ∷ 2 ∷ []) (one ∷ one ∷ [])) logs

flat : flat_factors (edge (fzero ∷ three ∷ [])) ≡ minus_zero ∷ fzero ∷ minus_three ∷ []
unfolding doubles_of matched_by is_matched_row log_factor clamp_log sums_over places_to column_of sum_to flattened largest_from of_bits add sub div neg lt eq
flat = refl

-- -0.0 before 0.0, and the other way round
first_of_equals : flat_factors (edge (minus_zero ∷ fzero ∷ [])) ≡ minus_zero ∷ fzero ∷ fzero ∷ []
unfolding doubles_of matched_by is_matched_row log_factor clamp_log sums_over places_to column_of sum_to flattened largest_from of_bits add sub div neg lt eq
first_of_equals = refl

other_first : flat_factors (edge (fzero ∷ fzero ∷ [])) ≡ minus_zero ∷ fzero ∷ minus_zero ∷ []
unfolding doubles_of matched_by is_matched_row log_factor clamp_log sums_over places_to column_of sum_to flattened largest_from of_bits add sub div neg lt eq
other_first = refl

-- no entry to a matched index
alone : flat_factors (input lost (matrix 3 (0 ∷ 0 ∷ 0 ∷ 1 ∷ []) (2 ∷ []) (one ∷ [])) (three ∷ [])) ≡ minus_zero ∷ fzero ∷ fzero ∷ []
unfolding doubles_of matched_by is_matched_row log_factor clamp_log sums_over places_to column_of sum_to flattened largest_from of_bits add sub div neg lt eq
alone = refl
