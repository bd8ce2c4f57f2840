-- Which numbers each public call answers, by the names of SPECIFICATION's table. The clause `number` of its contract,
-- native and over C, says that it answers no other.
use Rattle.std.specs.Prelude.{◌≡◌, Bool, true, false, ◌||◌, List, [], ◌∷◌, ℕ, eqb}
use Rattle.refusal.specs.Refusal

-- the number is one of the list
unfoldable pub listed : List ℕ → ℕ → Bool
listed [] number = false
listed (one ∷ numbers) number = eqb one number || listed numbers number

-- what the clause says: the number is one of these
abbrev pub OneOf : List ℕ → ℕ → Type 0
OneOf numbers number = listed numbers number ≡ true

-- ---- matrices
-- `general::validate`
abbrev pub general_numbers : List ℕ
general_numbers =
    Refusal.accepted
    ∷ Refusal.too_many_columns
    ∷ Refusal.too_many_entries
    ∷ Refusal.slice_length
    ∷ Refusal.column_pointers
    ∷ Refusal.index_range
    ∷ Refusal.rows_not_rising
    ∷ []

-- `csc::validate`, and the inf-norm calls, which test nothing else
abbrev pub symmetric_numbers : List ℕ
symmetric_numbers =
    Refusal.accepted
    ∷ Refusal.too_many_columns
    ∷ Refusal.too_many_entries
    ∷ Refusal.slice_length
    ∷ Refusal.column_pointers
    ∷ Refusal.index_range
    ∷ Refusal.upper_triangle
    ∷ Refusal.rows_not_rising
    ∷ []

-- `from_triplets` of a general and of a symmetric matrix
abbrev pub general_triplet_numbers : List ℕ
general_triplet_numbers =
    Refusal.accepted ∷ Refusal.too_many_columns ∷ Refusal.too_many_entries ∷ Refusal.slice_length ∷ Refusal.index_range ∷ []

abbrev pub symmetric_triplet_numbers : List ℕ
symmetric_triplet_numbers =
    Refusal.accepted
    ∷ Refusal.too_many_columns
    ∷ Refusal.too_many_entries
    ∷ Refusal.slice_length
    ∷ Refusal.index_range
    ∷ Refusal.upper_triangle
    ∷ []

-- ---- graphs
-- the match, as bytes too, and `build_general_graph`
abbrev pub graph_numbers : List ℕ
graph_numbers =
    Refusal.accepted
    ∷ Refusal.too_many_columns
    ∷ Refusal.too_many_entries
    ∷ Refusal.slice_length
    ∷ Refusal.column_pointers
    ∷ Refusal.index_range
    ∷ Refusal.rows_not_rising
    ∷ Refusal.cost_range
    ∷ []

-- `build_cost_graph` and the MC64 scaling
abbrev pub symmetric_graph_numbers : List ℕ
symmetric_graph_numbers =
    Refusal.accepted
    ∷ Refusal.too_many_columns
    ∷ Refusal.too_many_entries
    ∷ Refusal.slice_length
    ∷ Refusal.column_pointers
    ∷ Refusal.index_range
    ∷ Refusal.upper_triangle
    ∷ Refusal.rows_not_rising
    ∷ Refusal.cost_range
    ∷ Refusal.value_not_finite
    ∷ []

-- graphs from whole-number logarithms: never 8
abbrev pub whole_general_numbers : List ℕ
whole_general_numbers =
    Refusal.accepted
    ∷ Refusal.too_many_columns
    ∷ Refusal.too_many_entries
    ∷ Refusal.slice_length
    ∷ Refusal.column_pointers
    ∷ Refusal.index_range
    ∷ Refusal.rows_not_rising
    ∷ Refusal.value_not_finite
    ∷ []

abbrev pub whole_symmetric_numbers : List ℕ
whole_symmetric_numbers =
    Refusal.accepted
    ∷ Refusal.too_many_columns
    ∷ Refusal.too_many_entries
    ∷ Refusal.slice_length
    ∷ Refusal.column_pointers
    ∷ Refusal.index_range
    ∷ Refusal.upper_triangle
    ∷ Refusal.rows_not_rising
    ∷ Refusal.value_not_finite
    ∷ []

-- `check_match`: never 10
abbrev pub check_numbers : List ℕ
check_numbers =
    Refusal.accepted
    ∷ Refusal.too_many_columns
    ∷ Refusal.too_many_entries
    ∷ Refusal.slice_length
    ∷ Refusal.column_pointers
    ∷ Refusal.index_range
    ∷ Refusal.rows_not_rising
    ∷ Refusal.cost_range
    ∷ Refusal.incomplete_matching
    ∷ Refusal.infeasible_duals
    ∷ Refusal.loose_pair
    ∷ []

-- `check_largest`
abbrev pub largest_numbers : List ℕ
largest_numbers =
    Refusal.accepted
    ∷ Refusal.too_many_columns
    ∷ Refusal.too_many_entries
    ∷ Refusal.slice_length
    ∷ Refusal.column_pointers
    ∷ Refusal.index_range
    ∷ Refusal.rows_not_rising
    ∷ Refusal.incomplete_matching
    ∷ Refusal.not_largest
    ∷ []

-- `match_gap`: never 10 or 32
abbrev pub gap_numbers : List ℕ
gap_numbers =
    Refusal.accepted
    ∷ Refusal.too_many_columns
    ∷ Refusal.too_many_entries
    ∷ Refusal.slice_length
    ∷ Refusal.column_pointers
    ∷ Refusal.index_range
    ∷ Refusal.rows_not_rising
    ∷ Refusal.cost_range
    ∷ Refusal.incomplete_matching
    ∷ Refusal.infeasible_duals
    ∷ []

-- ---- the chooser
-- the external choice, which is never accepted
abbrev pub external_numbers : List ℕ
external_numbers = Refusal.too_many_columns ∷ Refusal.too_many_entries ∷ Refusal.external_choice ∷ []

-- all choices together
abbrev pub chooser_numbers : List ℕ
chooser_numbers =
    Refusal.accepted
    ∷ Refusal.too_many_columns
    ∷ Refusal.too_many_entries
    ∷ Refusal.slice_length
    ∷ Refusal.column_pointers
    ∷ Refusal.index_range
    ∷ Refusal.upper_triangle
    ∷ Refusal.rows_not_rising
    ∷ Refusal.cost_range
    ∷ Refusal.value_not_finite
    ∷ Refusal.external_choice
    ∷ []

-- ---- factors and roots
-- `log_factors`, as bytes too
abbrev pub log_factor_numbers : List ℕ
log_factor_numbers = Refusal.accepted ∷ Refusal.too_many_columns ∷ Refusal.slice_length ∷ Refusal.matching_range ∷ []

-- `log_factors_by_rule`, by either rule, and by the number of a rule; an unknown number gives 5
abbrev pub rule_numbers : List ℕ
rule_numbers =
    Refusal.accepted
    ∷ Refusal.too_many_columns
    ∷ Refusal.too_many_entries
    ∷ Refusal.slice_length
    ∷ Refusal.column_pointers
    ∷ Refusal.index_range
    ∷ Refusal.upper_triangle
    ∷ Refusal.rows_not_rising
    ∷ Refusal.cost_range
    ∷ Refusal.value_not_finite
    ∷ Refusal.matching_range
    ∷ []

-- `unsymmetric_factors`, as bytes too: never 10
abbrev pub unsymmetric_numbers : List ℕ
unsymmetric_numbers = Refusal.accepted ∷ Refusal.too_many_columns ∷ Refusal.slice_length ∷ []

-- `sqrt`, and the root into bytes
abbrev pub root_numbers : List ℕ
root_numbers = Refusal.accepted ∷ Refusal.no_root ∷ []

abbrev pub root_byte_numbers : List ℕ
root_byte_numbers = Refusal.accepted ∷ Refusal.slice_length ∷ Refusal.no_root ∷ []

-- `whole_log`, and the call that stores what it answers
abbrev pub log_numbers : List ℕ
log_numbers = Refusal.accepted ∷ Refusal.value_not_finite ∷ []

abbrev pub stored_log_numbers : List ℕ
stored_log_numbers = Refusal.accepted ∷ Refusal.slice_length ∷ Refusal.value_not_finite ∷ []

-- `exponents`
abbrev pub exponent_numbers : List ℕ
exponent_numbers = Refusal.accepted ∷ Refusal.too_many_columns ∷ Refusal.slice_length ∷ Refusal.exponent_range ∷ []

-- `apply_exponents`
abbrev pub apply_numbers : List ℕ
apply_numbers =
    Refusal.accepted
    ∷ Refusal.too_many_columns
    ∷ Refusal.too_many_entries
    ∷ Refusal.slice_length
    ∷ Refusal.column_pointers
    ∷ Refusal.index_range
    ∷ Refusal.rows_not_rising
    ∷ Refusal.exponent_range
    ∷ Refusal.value_not_normal
    ∷ []

-- ---- sheet files
-- `write_sheet`
abbrev pub write_sheet_numbers : List ℕ
write_sheet_numbers = Refusal.accepted ∷ Refusal.too_many_columns ∷ Refusal.slice_length ∷ Refusal.matching_range ∷ []

-- `read_sheet`
abbrev pub read_sheet_numbers : List ℕ
read_sheet_numbers =
    Refusal.accepted
    ∷ Refusal.slice_length
    ∷ Refusal.sheet_cut
    ∷ Refusal.sheet_index
    ∷ Refusal.patch_twice
    ∷ []

-- `read_canonical_sheet`
abbrev pub canonical_sheet_numbers : List ℕ
canonical_sheet_numbers =
    Refusal.accepted
    ∷ Refusal.slice_length
    ∷ Refusal.sheet_cut
    ∷ Refusal.sheet_index
    ∷ Refusal.patch_order
    ∷ Refusal.needless_field
    ∷ []

-- ---- the programs
-- what `ties` and `pairs` refuse with
abbrev pub file_numbers : List ℕ
file_numbers =
    Refusal.banner
    ∷ Refusal.size_line
    ∷ Refusal.input_limit
    ∷ Refusal.entry_line
    ∷ Refusal.entry_count
    ∷ Refusal.repeated_pair
    ∷ Refusal.upper_entry
    ∷ []
