-- Small calls, by computing: samples 6 and 8 of SPECIFICATION 13, an index whose column is matched and whose row is not, a refusal, a NaN.
use mathlib.Core.Path.{◌≡◌, refl}
use mathlib.Core.Bool.{true}
use mathlib.Core.List.{[], ◌∷◌}
use lib.Ieee.{Float, nan, binary64, of_bits, add, sub, div, neg, lt, is_nan}
use Rattle.limits.specs.Limits.{none}
use Rattle.slices.specs.Outcome.{outcome_is}
use Rattle.float64.specs.Constants.{zero as fzero, one, log_huge, minus_log_huge}
use Rattle.float64.specs.Functions.{clamp_log}
use Rattle.sparse.specs.Fault.{first_of}
use Rattle.sparse.specs.Validate.{size_fault}
use Rattle.matching.specs.Match.{Match, match_of}
use Rattle.std.specs.Prelude.{Ok, Err}
use Rattle.factors_mc64.specs.declared.Scaled.TheVariants.{Applied, PartialSingular}
use Rattle.factors_mc64.specs.Factors.{doubles_of, is_matched_row, log_factor, held}
use Rattle.factors_mc64.specs.Calls.{slices, lengths, matching_fault, symmetric_outcome, sides, side_lengths, unsymmetric_outcome}

-- n = 1, its only log x: the cost and the duals are 0
abbrev alone : Float → Match Float
alone x = match_of (0 ∷ []) (fzero ∷ []) (fzero ∷ []) (x ∷ [])

-- log 3 gives -1.5
log_3 : symmetric_outcome 1 1 (alone (of_bits binary64 0x4008_0000_0000_0000)) (slices (one ∷ []) (7 ∷ [])) ≡ outcome_is (Ok Applied)
    (slices (of_bits binary64 0xBFF8_0000_0000_0000 ∷ []) (0 ∷ []))
unfolding symmetric_outcome lengths matching_fault size_fault first_of doubles_of is_matched_row log_factor clamp_log of_bits add sub div neg lt
log_3 = refl

-- log -1418 gives 709
log_1418 : log_factor true fzero fzero (of_bits binary64 0xC096_2800_0000_0000) ≡ log_huge
unfolding log_factor clamp_log of_bits add sub div neg lt
log_1418 = refl

-- log -1420 gives 709, held
log_1420 : log_factor true fzero fzero (of_bits binary64 0xC096_3000_0000_0000) ≡ log_huge
unfolding log_factor clamp_log of_bits add sub div neg lt
log_1420 = refl

-- column 0 has row 1: row 0 is free, and so is column 1
free_row : symmetric_outcome 2 1 (match_of (1 ∷ none ∷ []) (one ∷ one ∷ []) (one ∷ one ∷ []) (one ∷ one ∷ [])) (slices (one ∷ one ∷ []) (7 ∷ 7 ∷ []))
    ≡ outcome_is (Ok (PartialSingular 1)) (slices (fzero ∷ fzero ∷ []) (0 ∷ 0 ∷ []))
unfolding symmetric_outcome lengths matching_fault size_fault first_of doubles_of is_matched_row log_factor clamp_log of_bits add sub div neg lt
free_row = refl

-- row 1 of one
refused : symmetric_outcome 1 1 (match_of (1 ∷ []) (one ∷ []) (one ∷ []) (one ∷ [])) (slices (one ∷ []) (7 ∷ [])) ≡ outcome_is (Err 10)
    (slices (one ∷ []) (7 ∷ []))
unfolding symmetric_outcome lengths matching_fault size_fault first_of
refused = refl

unsymmetric : unsymmetric_outcome 1 (nan ∷ []) (of_bits binary64 0xC096_3000_0000_0000 ∷ []) (fzero ∷ []) (one ∷ []) (one ∷ []) ≡ outcome_is 0
    (sides (fzero ∷ []) (minus_log_huge ∷ []))
unfolding unsymmetric_outcome side_lengths size_fault doubles_of held clamp_log is_nan of_bits add sub neg lt
unsymmetric = refl
