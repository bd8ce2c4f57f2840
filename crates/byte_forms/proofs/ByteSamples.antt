-- The definition of suontarvi_match_bytes on small inputs, by computing: the order of refusals 1, 2, 3, one of the graph's, and a match.
use mathlib.Core.Path.{◌≡◌, refl}
use mathlib.Core.List.{List, [], ◌∷◌}
use Prim.Native.Nat.{ℕ}
use lib.ListN.{replicate}
use lib.Ieee.{of_bits, to_bits, add, sub, lt, le, eq, ne}
use Rattle.slices.specs.Outcome.{outcome_is}
use Rattle.sparse.specs.Fault.{first_of}
use Rattle.sparse.specs.Validate.{size_fault, pointer_fault, general_columns, general_column}
use Rattle.float64.specs.Number.{magnitude, units_per_one}
use Rattle.hungarian.specs.Test.{graph_fault}
use Rattle.hungarian.specs.Match.{hungarian_match}
use Rattle.byte_numbers.specs.Bytes.{bytes_of, number_at, list_of, words, doubles, all_bytes, word_bytes, double_bytes}
use Rattle.byte_forms.specs.MatchBytes.{byte_lengths, byte_sizes, graph_bytes, graph_read, MatchBytes, match_bytes, match_laid, result_by, bytes_fault}
use Rattle.byte_forms.specs.MatchBytes.{match_bytes_result}

-- 257 columns come first, 2,049 entries second, whatever the lengths; 5 bytes are one entry and a wrong length
columns : byte_sizes 257 0 8196 0 0 0 0 0 ≡ 1
unfolding byte_sizes
columns = refl

entries : byte_sizes 256 0 8196 0 0 0 0 0 ≡ 2
unfolding byte_sizes
entries = refl

lengths : byte_sizes 1 8 5 8 4 8 8 64 ≡ 3
unfolding byte_sizes byte_lengths
lengths = refl

-- room for one column, all bytes 9
abbrev room : MatchBytes
room = match_bytes (replicate 4 9) (replicate 8 9) (replicate 8 9) (replicate 64 9)

-- the double 1
abbrev one_bytes : List ℕ
one_bytes = 0 ∷ 0 ∷ 0 ∷ 0 ∷ 0 ∷ 0 ∷ 240 ∷ 63 ∷ []

-- one entry of cost 1, whose row dual is 1
one_entry : match_bytes_result (graph_bytes 1 (0 ∷ 0 ∷ 0 ∷ 0 ∷ 1 ∷ 0 ∷ 0 ∷ 0 ∷ []) (replicate 4 0) one_bytes) room ≡ outcome_is 0
    (match_bytes (replicate 4 0) one_bytes (replicate 8 0) (1 ∷ replicate 63 0))
unfolding match_bytes_result bytes_fault byte_sizes byte_lengths graph_read words doubles list_of number_at graph_fault size_fault pointer_fault general_columns
    general_column first_of magnitude units_per_one result_by hungarian_match match_laid word_bytes double_bytes all_bytes bytes_of of_bits to_bits add sub lt le eq ne
one_entry = refl

-- its row is out of range
row_range : match_bytes_result (graph_bytes 1 (0 ∷ 0 ∷ 0 ∷ 0 ∷ 1 ∷ 0 ∷ 0 ∷ 0 ∷ []) (1 ∷ 0 ∷ 0 ∷ 0 ∷ []) one_bytes) room ≡ outcome_is 5 room
unfolding match_bytes_result bytes_fault byte_sizes byte_lengths graph_read words doubles list_of number_at graph_fault size_fault pointer_fault general_columns
    general_column first_of result_by
row_range = refl
