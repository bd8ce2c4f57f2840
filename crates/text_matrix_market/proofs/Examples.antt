-- Inputs that compute: sample 2 of SPECIFICATION 13 and damaged ones.
use mathlib.Core.Path.{◌≡◌, refl}
use mathlib.Core.List.{List, [], ◌∷◌, ◌++◌}
use Prim.Native.Nat.{ℕ}
use Prim.Native.String.{String}
use lib.ListN.{replicate}
use Rattle.refusal.specs.Refusal.{banner, size_line, input_limit, entry_line, entry_count, repeated_pair, upper_entry}
use Rattle.text_matrix_market.specs.declared.banner.Kind.TheVariants.{General, Symmetric, Pattern}
use Rattle.text_matrix_market.specs.declared.stages.Entry.{Entry}
use Rattle.text_matrix_market.specs.Text.{cut, non_empty, lines_of, words_of, is_blank_line, begins_percent}
use Rattle.text_matrix_market.specs.Numbers.{decimal_value, number_read, size_read, three_of, two_of, numbers_of}
use Rattle.text_matrix_market.specs.Banner.{same_word, same_words, codes, is_banner, banner_kind}
use Rattle.text_matrix_market.specs.File.{line_entry, content, read_line, read_lines, file, refusal, reading_at_end, reading_of, pair_among, repeats, file_of}

-- below the banner
abbrev headed : String → List ℕ
headed s = codes "%%MatrixMarket matrix coordinate integer general\n" ++ codes s

abbrev t : ℕ → ℕ → ℕ → Entry
t row column cost = record { row = row; column = column; weight = cost }

the_sample : file_of (headed "% reel 4\n3 3 8\n1 1 1\n2 1 3\n1 2 1\n2 2 2\n3 2 5\n1 3 0\n2 3 0\n3 3 0\n") ≡ file General 3
    (t 0 0 1 ∷ t 1 0 3 ∷ t 0 1 1 ∷ t 1 1 2 ∷ t 2 1 5 ∷ t 0 2 0 ∷ t 1 2 0 ∷ t 2 2 0 ∷ [])
unfolding cut non_empty lines_of words_of is_blank_line begins_percent decimal_value number_read size_read three_of two_of numbers_of same_word same_words is_banner
    banner_kind line_entry content read_line read_lines reading_at_end reading_of pair_among repeats file_of
the_sample = refl

nothing : file_of (codes "") ≡ refusal banner
unfolding cut non_empty lines_of words_of is_blank_line begins_percent decimal_value number_read size_read three_of two_of numbers_of same_word same_words is_banner
    banner_kind line_entry content read_line read_lines reading_at_end reading_of pair_among repeats file_of
nothing = refl

blank_before_the_banner : file_of (codes " %%MatrixMarket matrix coordinate integer general\n0 0 0") ≡ refusal banner
unfolding cut non_empty lines_of words_of is_blank_line begins_percent decimal_value number_read size_read three_of two_of numbers_of same_word same_words is_banner
    banner_kind line_entry content read_line read_lines reading_at_end reading_of pair_among repeats file_of
blank_before_the_banner = refl

any_case_blank_lines_no_entries : file_of (codes "%%matrixMARKET\tMatrix  coordinate integer GENERAL \r\n\n \t\r\n%% 1 2\n 0 0 0\n\n") ≡ file General 0 []
unfolding cut non_empty lines_of words_of is_blank_line begins_percent decimal_value number_read size_read three_of two_of numbers_of same_word same_words is_banner
    banner_kind line_entry content read_line read_lines reading_at_end reading_of pair_among repeats file_of
any_case_blank_lines_no_entries = refl

no_size_line : file_of (headed "% x\n\n\n") ≡ refusal size_line
unfolding cut non_empty lines_of words_of is_blank_line begins_percent decimal_value number_read size_read three_of two_of numbers_of same_word same_words is_banner
    banner_kind line_entry content read_line read_lines reading_at_end reading_of pair_among repeats file_of
no_size_line = refl

blank_before_the_percent : file_of (headed " % x\n2 2 0") ≡ refusal size_line
unfolding cut non_empty lines_of words_of is_blank_line begins_percent decimal_value number_read size_read three_of two_of numbers_of same_word same_words is_banner
    banner_kind line_entry content read_line read_lines reading_at_end reading_of pair_among repeats file_of
blank_before_the_percent = refl

not_square_before_limits : file_of (headed "2 3 999") ≡ refusal size_line
unfolding cut non_empty lines_of words_of is_blank_line begins_percent decimal_value number_read size_read three_of two_of numbers_of same_word same_words is_banner
    banner_kind line_entry content read_line read_lines reading_at_end reading_of pair_among repeats file_of
not_square_before_limits = refl

too_wide : file_of (headed "65 65 0") ≡ refusal input_limit
unfolding cut non_empty lines_of words_of is_blank_line begins_percent decimal_value number_read size_read three_of two_of numbers_of same_word same_words is_banner
    banner_kind line_entry content read_line read_lines reading_at_end reading_of pair_among repeats file_of
too_wide = refl

leading_zeros : file_of (headed "002 2 00000000000000001\n01 2 07") ≡ file General 2 (t 0 1 7 ∷ [])
unfolding cut non_empty lines_of words_of is_blank_line begins_percent decimal_value number_read size_read three_of two_of numbers_of same_word same_words is_banner
    banner_kind line_entry content read_line read_lines reading_at_end reading_of pair_among repeats file_of
leading_zeros = refl

nineteen_digits : file_of (headed "2 2 1\n1 2 0000000000000000001") ≡ refusal entry_line
unfolding cut non_empty lines_of words_of is_blank_line begins_percent decimal_value number_read size_read three_of two_of numbers_of same_word same_words is_banner
    banner_kind line_entry content read_line read_lines reading_at_end reading_of pair_among repeats file_of
nineteen_digits = refl

index_zero : file_of (headed "2 2 1\n0 2 1") ≡ refusal entry_line
unfolding cut non_empty lines_of words_of is_blank_line begins_percent decimal_value number_read size_read three_of two_of numbers_of same_word same_words is_banner
    banner_kind line_entry content read_line read_lines reading_at_end reading_of pair_among repeats file_of
index_zero = refl

comment_below_the_size_line : file_of (headed "2 2 1\n% 1 2\n1 2 1") ≡ refusal entry_line
unfolding cut non_empty lines_of words_of is_blank_line begins_percent decimal_value number_read size_read three_of two_of numbers_of same_word same_words is_banner
    banner_kind line_entry content read_line read_lines reading_at_end reading_of pair_among repeats file_of
comment_below_the_size_line = refl

cost_at_the_limit : file_of (headed "2 2 1\n1 2 140737488355328") ≡ refusal entry_line
unfolding cut non_empty lines_of words_of is_blank_line begins_percent decimal_value number_read size_read three_of two_of numbers_of same_word same_words is_banner
    banner_kind line_entry content read_line read_lines reading_at_end reading_of pair_among repeats file_of
cost_at_the_limit = refl

cost_below_the_limit : file_of (headed "2 2 1\n1 2 140737488355327") ≡ file General 2 (t 0 1 140737488355327 ∷ [])
unfolding cut non_empty lines_of words_of is_blank_line begins_percent decimal_value number_read size_read three_of two_of numbers_of same_word same_words is_banner
    banner_kind line_entry content read_line read_lines reading_at_end reading_of pair_among repeats file_of
cost_below_the_limit = refl

vertical_tab : file_of (headed "2 2 1\n1 2 3\u{b}\n") ≡ refusal entry_line
unfolding cut non_empty lines_of words_of is_blank_line begins_percent decimal_value number_read size_read three_of two_of numbers_of same_word same_words is_banner
    banner_kind line_entry content read_line read_lines reading_at_end reading_of pair_among repeats file_of
vertical_tab = refl

lone_carriage_return : file_of (headed "2 2 1\n1\r2 3\r\n") ≡ file General 2 (t 0 1 3 ∷ [])
unfolding cut non_empty lines_of words_of is_blank_line begins_percent decimal_value number_read size_read three_of two_of numbers_of same_word same_words is_banner
    banner_kind line_entry content read_line read_lines reading_at_end reading_of pair_among repeats file_of
lone_carriage_return = refl

too_few : file_of (headed "2 2 2\n1 2 3") ≡ refusal entry_count
unfolding cut non_empty lines_of words_of is_blank_line begins_percent decimal_value number_read size_read three_of two_of numbers_of same_word same_words is_banner
    banner_kind line_entry content read_line read_lines reading_at_end reading_of pair_among repeats file_of
too_few = refl

too_many_before_content : file_of (headed "2 2 1\n1 2 3\n\nx") ≡ refusal entry_count
unfolding cut non_empty lines_of words_of is_blank_line begins_percent decimal_value number_read size_read three_of two_of numbers_of same_word same_words is_banner
    banner_kind line_entry content read_line read_lines reading_at_end reading_of pair_among repeats file_of
too_many_before_content = refl

too_long_before_too_many : file_of (headed "2 2 1\n1 2 3\n" ++ replicate 1025 120) ≡ refusal input_limit
unfolding cut non_empty lines_of words_of is_blank_line begins_percent decimal_value number_read size_read three_of two_of numbers_of same_word same_words is_banner
    banner_kind line_entry content read_line read_lines reading_at_end reading_of pair_among repeats file_of
too_long_before_too_many = refl

long_enough : file_of (headed "2 2 1\n1 2 3\n" ++ replicate 1024 32) ≡ file General 2 (t 0 1 3 ∷ [])
unfolding cut non_empty lines_of words_of is_blank_line begins_percent decimal_value number_read size_read three_of two_of numbers_of same_word same_words is_banner
    banner_kind line_entry content read_line read_lines reading_at_end reading_of pair_among repeats file_of
long_enough = refl

input_over_the_limit : file_of (replicate 32769 10) ≡ refusal input_limit
unfolding cut non_empty lines_of words_of is_blank_line begins_percent decimal_value number_read size_read three_of two_of numbers_of same_word same_words is_banner
    banner_kind line_entry content read_line read_lines reading_at_end reading_of pair_among repeats file_of
input_over_the_limit = refl

pair_twice : file_of (headed "2 2 2\n1 2 3\n1 2 4") ≡ refusal repeated_pair
unfolding cut non_empty lines_of words_of is_blank_line begins_percent decimal_value number_read size_read three_of two_of numbers_of same_word same_words is_banner
    banner_kind line_entry content read_line read_lines reading_at_end reading_of pair_among repeats file_of
pair_twice = refl

-- ---- symmetric files and patterns
abbrev symmetric : String → List ℕ
symmetric s = codes "%%MatrixMarket matrix coordinate integer symmetric\n" ++ codes s

abbrev pattern : String → List ℕ
pattern s = codes "%%MatrixMarket matrix coordinate pattern general\n" ++ codes s

the_symmetric_sample : file_of (symmetric "3 3 3\n2 1 -8\n3 2 1024\n3 1 3\n") ≡ file Symmetric 3 (t 1 0 8 ∷ t 2 1 1024 ∷ t 2 0 3 ∷ [])
unfolding cut non_empty lines_of words_of is_blank_line begins_percent decimal_value number_read size_read three_of two_of numbers_of same_word same_words is_banner
    banner_kind line_entry content read_line read_lines reading_at_end reading_of pair_among repeats file_of
the_symmetric_sample = refl

one_minus_only : file_of (symmetric "2 2 1\n2 1 --5") ≡ refusal entry_line
unfolding cut non_empty lines_of words_of is_blank_line begins_percent decimal_value number_read size_read three_of two_of numbers_of same_word same_words is_banner
    banner_kind line_entry content read_line read_lines reading_at_end reading_of pair_among repeats file_of
one_minus_only = refl

minus_and_eighteen_digits : file_of (symmetric "2 2 1\n2 1 -000000000000000000") ≡ file Symmetric 2 (t 1 0 0 ∷ [])
unfolding cut non_empty lines_of words_of is_blank_line begins_percent decimal_value number_read size_read three_of two_of numbers_of same_word same_words is_banner
    banner_kind line_entry content read_line read_lines reading_at_end reading_of pair_among repeats file_of
minus_and_eighteen_digits = refl

value_below_the_limit : file_of (symmetric "2 2 1\n2 1 -9007199254740991") ≡ file Symmetric 2 (t 1 0 9007199254740991 ∷ [])
unfolding cut non_empty lines_of words_of is_blank_line begins_percent decimal_value number_read size_read three_of two_of numbers_of same_word same_words is_banner
    banner_kind line_entry content read_line read_lines reading_at_end reading_of pair_among repeats file_of
value_below_the_limit = refl

value_at_the_limit_before_the_diagonal : file_of (symmetric "2 2 1\n1 2 9007199254740992") ≡ refusal entry_line
unfolding cut non_empty lines_of words_of is_blank_line begins_percent decimal_value number_read size_read three_of two_of numbers_of same_word same_words is_banner
    banner_kind line_entry content read_line read_lines reading_at_end reading_of pair_among repeats file_of
value_at_the_limit_before_the_diagonal = refl

above_the_diagonal : file_of (symmetric "2 2 2\n1 2 0\n1 2 0") ≡ refusal upper_entry
unfolding cut non_empty lines_of words_of is_blank_line begins_percent decimal_value number_read size_read three_of two_of numbers_of same_word same_words is_banner
    banner_kind line_entry content read_line read_lines reading_at_end reading_of pair_among repeats file_of
above_the_diagonal = refl

zeros_repeated : file_of (symmetric "2 2 2\n2 1 0\n2 1 -0") ≡ refusal repeated_pair
unfolding cut non_empty lines_of words_of is_blank_line begins_percent decimal_value number_read size_read three_of two_of numbers_of same_word same_words is_banner
    banner_kind line_entry content read_line read_lines reading_at_end reading_of pair_among repeats file_of
zeros_repeated = refl

two_words : file_of (pattern "2 2 1\n1 2") ≡ file Pattern 2 (t 0 1 0 ∷ [])
unfolding cut non_empty lines_of words_of is_blank_line begins_percent decimal_value number_read size_read three_of two_of numbers_of same_word same_words is_banner
    banner_kind line_entry content read_line read_lines reading_at_end reading_of pair_among repeats file_of
two_words = refl

three_words_in_a_pattern : file_of (pattern "2 2 1\n1 2 3") ≡ refusal entry_line
unfolding cut non_empty lines_of words_of is_blank_line begins_percent decimal_value number_read size_read three_of two_of numbers_of same_word same_words is_banner
    banner_kind line_entry content read_line read_lines reading_at_end reading_of pair_among repeats file_of
three_words_in_a_pattern = refl

minus_in_a_general_file : file_of (headed "2 2 1\n2 1 -0") ≡ refusal entry_line
unfolding cut non_empty lines_of words_of is_blank_line begins_percent decimal_value number_read size_read three_of two_of numbers_of same_word same_words is_banner
    banner_kind line_entry content read_line read_lines reading_at_end reading_of pair_among repeats file_of
minus_in_a_general_file = refl

no_such_kind : file_of (codes "%%MatrixMarket matrix coordinate pattern symmetric\n0 0 0") ≡ refusal banner
unfolding cut non_empty lines_of words_of is_blank_line begins_percent decimal_value number_read size_read three_of two_of numbers_of same_word same_words is_banner
    banner_kind line_entry content read_line read_lines reading_at_end reading_of pair_among repeats file_of
no_such_kind = refl
