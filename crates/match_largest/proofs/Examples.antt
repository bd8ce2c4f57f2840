-- The definition on small patterns, by computing: two columns that share their only row, a path of three columns, and no columns at all.
use mathlib.Core.Path.{◌≡◌, refl}
use mathlib.Core.List.{[], ◌∷◌}
use Rattle.limits.specs.Limits.{none}
use Rattle.slices.specs.Lists.{tabulate}
use Rattle.slices.specs.Outcome.{outcome_is}
use Rattle.sparse.specs.Fault.{first_of}
use Rattle.sparse.specs.Validate.{size_fault, pointer_fault, general_column, general_columns, pattern_fault}
use Rattle.matching.specs.Sum.{sum_to}
use Rattle.matching.specs.Pairing.{matched_count}
use Rattle.sparse.specs.Pattern.{Pattern, pattern, column_of}
use Rattle.match_check.specs.Check.{every_of, some_of}
use Rattle.match_largest.specs.Marks.{pairs_fit, is_met, columns_after, marked_columns, marked_rows, is_largest, pairing_fault}
use Rattle.match_largest.specs.Call.{Slices, slices, largest_lengths, largest_fault, marks_of, largest_outcome}

-- columns 0 and 1 have their only entries in row 0
unfoldable shared : Pattern
shared = pattern 2 (0 ∷ 1 ∷ 2 ∷ []) (0 ∷ 0 ∷ [])

unfoldable before : Slices
before = slices (7 ∷ 7 ∷ []) (7 ∷ 7 ∷ []) (7 ∷ [])

both_compete : largest_outcome shared (0 ∷ none ∷ []) before ≡ outcome_is 0 (slices (1 ∷ 1 ∷ []) (1 ∷ 0 ∷ []) (1 ∷ []))
unfolding shared before largest_outcome largest_fault largest_lengths pattern_fault pairing_fault size_fault pointer_fault general_columns general_column
    first_of every_of some_of pairs_fit is_largest marks_of marked_rows marked_columns columns_after is_met column_of sum_to tabulate matched_count
both_compete = refl

none_taken : largest_outcome shared (none ∷ none ∷ []) before ≡ outcome_is 33 before
unfolding shared before largest_outcome largest_fault largest_lengths pattern_fault pairing_fault size_fault pointer_fault general_columns general_column
    first_of every_of some_of pairs_fit is_largest marks_of marked_rows marked_columns columns_after is_met column_of sum_to tabulate matched_count
none_taken = refl

no_entry : largest_outcome shared (1 ∷ none ∷ []) before ≡ outcome_is 30 before
unfolding shared before largest_outcome largest_fault largest_lengths pattern_fault pairing_fault size_fault pointer_fault general_columns general_column
    first_of every_of some_of pairs_fit is_largest marks_of marked_rows marked_columns columns_after is_met column_of sum_to tabulate matched_count
no_entry = refl

-- column 0 has row 0, column 1 rows 0 and 1, column 2 rows 1 and 2
unfoldable chain : Pattern
chain = pattern 3 (0 ∷ 1 ∷ 3 ∷ 5 ∷ []) (0 ∷ 0 ∷ 1 ∷ 1 ∷ 2 ∷ [])

unfoldable room : Slices
room = slices (7 ∷ 7 ∷ 7 ∷ []) (7 ∷ 7 ∷ 7 ∷ []) (7 ∷ [])

-- a path leads from column 0 over rows 0 and 1 to the free row 2
path-left : largest_outcome chain (none ∷ 0 ∷ 1 ∷ []) room ≡ outcome_is 33 room
unfolding chain room largest_outcome largest_fault largest_lengths pattern_fault pairing_fault size_fault pointer_fault general_columns general_column first_of
    every_of some_of pairs_fit is_largest marks_of marked_rows marked_columns columns_after is_met column_of sum_to tabulate matched_count
path-left = refl

path_taken : largest_outcome chain (0 ∷ 1 ∷ 2 ∷ []) room ≡ outcome_is 0 (slices (0 ∷ 0 ∷ 0 ∷ []) (0 ∷ 0 ∷ 0 ∷ []) (3 ∷ []))
unfolding chain room largest_outcome largest_fault largest_lengths pattern_fault pairing_fault size_fault pointer_fault general_columns general_column first_of
    every_of some_of pairs_fit is_largest marks_of marked_rows marked_columns columns_after is_met column_of sum_to tabulate matched_count
path_taken = refl

nothing : largest_outcome (pattern 0 (0 ∷ []) []) [] (slices [] [] (7 ∷ [])) ≡ outcome_is 0 (slices [] [] (0 ∷ []))
unfolding largest_outcome largest_fault largest_lengths pattern_fault pairing_fault size_fault pointer_fault general_columns general_column first_of every_of
    some_of pairs_fit is_largest marks_of marked_rows marked_columns columns_after is_met column_of sum_to tabulate matched_count
nothing = refl
