-- The definition on small calls, by computing: no columns, one column whose log is 3 or -1418, and a slice of factors that is too long. The factor 709
-- of -1418 balances.
use mathlib.Core.Path.{◌≡◌, refl, sym}
use mathlib.Core.List.{List, [], ◌∷◌}
use Prim.Native.Nat.{ℕ, zero, suc, ◌<◌}
use native.Mathlib.Omega.{arith}
use lib.Dec.{T}
use lib.IntN.{negsuc}
use lib.ListN.{get_or}
use lib.Ieee.{Float, nan, binary64, fits, of_bits, add, sub, div, neg, eq, ne, lt, le}
use Rattle.slices.specs.Outcome.{outcome_is}
use Rattle.float64.specs.Constants.{zero as fzero, one, log_huge}
use Rattle.float64.specs.Functions.{clamp_log}
use Rattle.sparse.specs.Fault.{first_of}
use Rattle.sparse.specs.Matrix.{Matrix, matrix}
use Rattle.sparse.specs.Validate.{size_fault, pointer_fault, frame_fault, lower_column, rising_column, symmetric_columns, symmetric_fault}
use Rattle.matching.specs.Match.{match_of}
use Rattle.hungarian.specs.Match.{hungarian_match}
use Rattle.hungarian_match.specs.Call as Match
use Rattle.float64.specs.Number.{magnitude, units_per_one as units_per_one}
use Rattle.cost_limit.specs.Range.{in_log_range}
use Rattle.matching.specs.Sum.{sum_to}
use Rattle.sparse.specs.Pattern.{column_of}
use Rattle.mc64_columns.specs.Columns.{largest, largest_from, normalised}
use Rattle.mc64_columns.specs.Graphs as Graphs
use Rattle.mc64_columns.specs.Graphs.{joined, slices_fit, built}
use Rattle.mc64_symmetric.specs.Graph.{places_to}
use Rattle.mc64_symmetric.specs.Call.{values_fault, input_fault}
use Rattle.std.specs.Prelude.{Ok, Err}
use Rattle.factors_mc64.specs.declared.Scaled.TheVariants.{Applied}
use Rattle.factors_mc64.specs.Factors.{doubles_of, is_matched_row, argument, log_factor}
use Rattle.factors_mc64.specs.Calls as Factors
use Rattle.factors_balance.specs.Balance.{WholeLogs, NoneHeld, Balanced}
use Rattle.mc64.specs.Call.{ScalingSlices, scaling_slices, rest_fits, symmetric_scaling, scaled}
use Rattle.mc64.proofs.Calling.{promised}

abbrev three : Float
three = of_bits binary64 0x4008_0000_0000_0000

-- no columns: all work is cleared
none : symmetric_scaling (matrix 0 (0 ∷ []) [] []) []
    (scaling_slices (Graphs.slices (9 ∷ []) [] [] [] (9 ∷ 9 ∷ [])) (Match.slices [] [] [] (9 ∷ []) []) (Factors.slices [] []))
    ≡ outcome_is (Ok Applied) (scaling_slices (Graphs.slices (0 ∷ []) [] [] [] (0 ∷ 0 ∷ [])) (Match.slices [] [] [] (0 ∷ []) []) (Factors.slices [] []))
unfolding symmetric_scaling scaled rest_fits slices_fit input_fault values_fault built size_fault pointer_fault frame_fault symmetric_columns symmetric_fault
    first_of joined hungarian_match doubles_of
none = refl

-- one column: what is lent, with these contents everywhere
abbrev single : Matrix
single = matrix 1 (0 ∷ 1 ∷ []) (0 ∷ []) (one ∷ [])

abbrev slices_one : List Float → ScalingSlices
slices_one factors =
    scaling_slices (Graphs.slices (9 ∷ 9 ∷ []) (9 ∷ 9 ∷ []) (one ∷ one ∷ []) (one ∷ []) (9 ∷ 9 ∷ 9 ∷ 9 ∷ 9 ∷ []))
    (Match.slices (9 ∷ []) (one ∷ []) (one ∷ []) (9 ∷ 9 ∷ 9 ∷ 9 ∷ 9 ∷ 9 ∷ 9 ∷ 9 ∷ 9 ∷ 9 ∷ 9 ∷ 9 ∷ 9 ∷ []) (one ∷ one ∷ []))
    (Factors.slices factors (9 ∷ []))

-- the log 3 gives -1.5; the second places of the graph stay
log_3 : symmetric_scaling single (three ∷ []) (slices_one (one ∷ []))
    ≡ outcome_is (Ok Applied)
    (scaling_slices (Graphs.slices (0 ∷ 1 ∷ []) (0 ∷ 9 ∷ []) (fzero ∷ one ∷ []) (three ∷ []) (0 ∷ 0 ∷ 0 ∷ 0 ∷ 0 ∷ []))
    (Match.slices (0 ∷ []) (fzero ∷ []) (fzero ∷ []) (0 ∷ 0 ∷ 0 ∷ 0 ∷ 0 ∷ 0 ∷ 0 ∷ 0 ∷ 0 ∷ 0 ∷ 0 ∷ 0 ∷ 0 ∷ []) (fzero ∷ fzero ∷ []))
    (Factors.slices (of_bits binary64 0xBFF8_0000_0000_0000 ∷ []) (0 ∷ [])))
unfolding symmetric_scaling scaled rest_fits slices_fit input_fault values_fault built size_fault pointer_fault frame_fault lower_column rising_column
    symmetric_columns symmetric_fault first_of joined places_to column_of sum_to in_log_range magnitude units_per_one normalised largest largest_from hungarian_match
    doubles_of
    is_matched_row log_factor clamp_log
    of_bits add sub div neg eq ne lt le
log_3 = refl

-- sample 8 of SPECIFICATION 13: the log -1418 gives 709, which is not held
abbrev low : Float
low = of_bits binary64 0xC096_2800_0000_0000

log_1418 : symmetric_scaling single (low ∷ []) (slices_one (one ∷ []))
    ≡ outcome_is (Ok Applied)
    (scaling_slices (Graphs.slices (0 ∷ 1 ∷ []) (0 ∷ 9 ∷ []) (fzero ∷ one ∷ []) (low ∷ []) (0 ∷ 0 ∷ 0 ∷ 0 ∷ 0 ∷ []))
    (Match.slices (0 ∷ []) (fzero ∷ []) (fzero ∷ []) (0 ∷ 0 ∷ 0 ∷ 0 ∷ 0 ∷ 0 ∷ 0 ∷ 0 ∷ 0 ∷ 0 ∷ 0 ∷ 0 ∷ 0 ∷ []) (fzero ∷ fzero ∷ []))
    (Factors.slices (log_huge ∷ []) (0 ∷ [])))
unfolding symmetric_scaling scaled rest_fits slices_fit input_fault values_fault built size_fault pointer_fault frame_fault lower_column rising_column
    symmetric_columns symmetric_fault first_of joined places_to column_of sum_to in_log_range magnitude units_per_one normalised largest largest_from hungarian_match
    doubles_of
    is_matched_row log_factor clamp_log
    of_bits add sub div neg eq ne lt le
log_1418 = refl

low_double : (k : ℕ) → k < 1 → T (fits binary64 (get_or (low ∷ []) k nan))
unfolding of_bits fits
low_double zero h = tt
low_double (suc k) h = absurd (omega arith)

low_whole : WholeLogs single (low ∷ [])
unfolding of_bits fits
low_whole zero K = (negsuc 1417, record { double = tt; is_finite = tt; value = refl })
low_whole (suc k) K = absurd (omega (arith, K.stored))

unheld_709 : NoneHeld 1 (match_of (0 ∷ []) (fzero ∷ []) (fzero ∷ []) (low ∷ [])) (log_huge ∷ [])
unfolding of_bits add sub div neg eq ne lt le
unheld_709 = record { unheld = at }
  where
    at : (i : ℕ) → i < 1 → get_or (log_huge ∷ []) i nan ≡ argument (get_or (fzero ∷ []) i nan) (get_or (fzero ∷ []) i nan) (get_or (low ∷ []) i nan)
    at zero h = refl
    at (suc i) h = absurd (omega arith)

-- so what the call promises of its factors holds of it
pub sample_8_balanced : Balanced single (low ∷ []) (0 ∷ []) (log_huge ∷ [])
sample_8_balanced = (promised single (low ∷ []) (slices_one (one ∷ [])) low_double (sym log_1418)).balanced refl low_whole unheld_709

-- two factors for one column: 3, and all stays; but 1 comes first
too_long : symmetric_scaling single (three ∷ []) (slices_one (one ∷ one ∷ [])) ≡ outcome_is (Err 3) (slices_one (one ∷ one ∷ []))
unfolding symmetric_scaling scaled rest_fits slices_fit input_fault size_fault
too_long = refl

too_many : symmetric_scaling (matrix 4097 (0 ∷ 1 ∷ []) (0 ∷ []) (one ∷ [])) (three ∷ []) (slices_one (one ∷ one ∷ []))
    ≡ outcome_is (Err 1) (slices_one (one ∷ one ∷ []))
unfolding symmetric_scaling scaled rest_fits slices_fit input_fault size_fault
too_many = refl
