-- The definitions of the log factors' calls on small inputs, by computing: the order of refusals 1, 3, 10, sample 6 of SPECIFICATION 13, and a NaN.
use mathlib.Core.Path.{◌≡◌, refl}
use mathlib.Core.Bool.{false}
use mathlib.Core.List.{List, [], ◌∷◌}
use Prim.Native.Nat.{ℕ}
use lib.ListN.{replicate}
use lib.Ieee.{of_bits, to_bits, add, sub, div, neg, lt, is_nan}
use Rattle.slices.specs.Outcome.{outcome_is}
use Rattle.float64.specs.Constants.{zero as fzero, one}
use Rattle.float64.specs.Functions.{clamp_log}
use Rattle.sparse.specs.Fault.{first_of}
use Rattle.sparse.specs.Validate.{size_fault}
use Rattle.matching.specs.Match.{match_of}
use Rattle.factors_mc64.specs.Factors.{is_matched_row, log_factor, held}
use Rattle.factors_mc64.specs.Factors as factors
use Rattle.factors_mc64.specs.Calls.{slices, lengths, matching_fault}
use Rattle.byte_numbers.specs.Bytes.{bytes_of, number_at, list_of, words, doubles, all_bytes, word_bytes, double_bytes}
use Rattle.suontarvi.specs.Factors.{log_factors_result, lent, factors_fault}
use Rattle.byte_forms.specs.FactorBytes.{factor_bytes, factor_sizes, cache_read, factors_laid, symmetric_sizes, log_factors_bytes, sides_laid, side_sizes}
use Rattle.byte_forms.specs.FactorBytes.{unsymmetric_bytes}

-- 257 columns come before a wrong length
columns : factor_sizes 257 0 0 0 0 false ≡ 1
unfolding factor_sizes
columns = refl

columns_fit : factor_sizes 256 0 0 0 0 false ≡ 3
unfolding factor_sizes
columns_fit = refl

-- one column that is unmatched; two places for the count are refused before the matched count is
unmatched : log_factors_result 1 0 (match_of (4294967295 ∷ []) (one ∷ []) (one ∷ []) (one ∷ [])) (slices (one ∷ []) (7 ∷ [])) (9 ∷ [])
    ≡ outcome_is 0 (lent (slices (fzero ∷ []) (0 ∷ [])) (1 ∷ []))
unfolding log_factors_result factors_fault lengths matching_fault size_fault first_of factors.doubles_of is_matched_row log_factor clamp_log of_bits add sub div neg lt
unmatched = refl

two_places : log_factors_result 1 2 (match_of (0 ∷ []) (one ∷ []) (one ∷ []) (one ∷ [])) (slices (one ∷ []) (7 ∷ [])) (9 ∷ 9 ∷ [])
    ≡ outcome_is 3 (lent (slices (one ∷ []) (7 ∷ [])) (9 ∷ 9 ∷ []))
unfolding log_factors_result factors_fault size_fault
two_places = refl

-- the doubles 3 and -1.5
abbrev three_bytes : List ℕ
three_bytes = 0 ∷ 0 ∷ 0 ∷ 0 ∷ 0 ∷ 0 ∷ 8 ∷ 64 ∷ []

abbrev factor_of_three : List ℕ
factor_of_three = 0 ∷ 0 ∷ 0 ∷ 0 ∷ 0 ∷ 0 ∷ 248 ∷ 191 ∷ []

-- log 3 gives -1.5
log_3 : log_factors_bytes 1 1 (replicate 4 0) (replicate 8 0) (replicate 8 0) three_bytes (replicate 8 9) (replicate 4 9)
    ≡ outcome_is 0 (factor_bytes factor_of_three (replicate 4 0))
unfolding log_factors_bytes symmetric_sizes factor_sizes cache_read words doubles list_of number_at matching_fault first_of factors_laid factors.doubles_of
    is_matched_row log_factor clamp_log double_bytes word_bytes all_bytes bytes_of of_bits to_bits add sub div neg lt
log_3 = refl

-- row 1 of one
row_range : log_factors_bytes 1 1 (1 ∷ 0 ∷ 0 ∷ 0 ∷ []) (replicate 8 0) (replicate 8 0) three_bytes (replicate 8 9) (replicate 4 9)
    ≡ outcome_is 10 (factor_bytes (replicate 8 9) (replicate 4 9))
unfolding log_factors_bytes symmetric_sizes factor_sizes cache_read words list_of number_at matching_fault first_of
row_range = refl

-- u is a NaN, v minus cmax is -1.5 less 3: 0 and -4.5
sides : unsymmetric_bytes 1 (0 ∷ 0 ∷ 0 ∷ 0 ∷ 0 ∷ 0 ∷ 248 ∷ 127 ∷ []) factor_of_three three_bytes (replicate 8 9) (replicate 8 9)
    ≡ outcome_is 0 (factor_bytes (replicate 8 0) (0 ∷ 0 ∷ 0 ∷ 0 ∷ 0 ∷ 0 ∷ 18 ∷ 192 ∷ []))
unfolding unsymmetric_bytes side_sizes factor_sizes sides_laid doubles list_of number_at factors.doubles_of held clamp_log is_nan double_bytes all_bytes bytes_of
    of_bits to_bits add sub neg lt
sides = refl
