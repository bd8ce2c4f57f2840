-- Small files by computing the definitions: written, read back, and refused at each rule, by the reader of any order and by the canonical one.
use mathlib.Core.Path.{◌≡◌, refl}
use mathlib.Core.List.{List, [], ◌∷◌, ◌++◌}
use Prim.Native.Nat.{ℕ}
use lib.ListN.{take}
use Rattle.limits.specs.Limits.{none}
use Rattle.refusal.specs.Refusal.{accepted, sheet_cut, sheet_index, patch_twice, patch_order, needless_field}
use Rattle.matching.specs.Match.{Match, match_of}
use Rattle.byte_numbers.specs.Bytes.{bytes_of, number_at}
use Rattle.sheet.specs.Format.{field_at, record_with, first_record, part, record_bytes, bits_of, patch_bytes, records_to, sheet_bytes, rows_present}
use Rattle.sheet.specs.Reading.{records, records_of, index_fault, repeat_fault, records_fault, stored, head_fault, no_marks, body_fault, sheet_fault, sheet_match}
use Rattle.sheet.specs.Canonical.{needless_fault, rising_fault, canonical_fault, canonical_body}

-- three columns: row 2, v 1.0 and cmax -0.0; nothing; row 0 and u a NaN with a payload
abbrev sample : Match ℕ
sample =
    match_of (2 ∷ none ∷ 0 ∷ []) (0 ∷ 0 ∷ 0x7ff8_0000_0000_0005 ∷ []) (0x3ff0_0000_0000_0000 ∷ 0 ∷ 0 ∷ []) (0x8000_0000_0000_0000 ∷ 0 ∷ 0 ∷ [])

-- its records, and n
abbrev first : List ℕ
first = 0 ∷ 0 ∷ 13 ∷ 2 ∷ 0 ∷ 0 ∷ 0 ∷ 0 ∷ 0 ∷ 0 ∷ 0 ∷ 0xf0 ∷ 0x3f ∷ 0 ∷ 0 ∷ 0 ∷ 0 ∷ 0 ∷ 0 ∷ 0 ∷ 0x80 ∷ []

abbrev last : List ℕ
last = 2 ∷ 0 ∷ 3 ∷ 0 ∷ 0 ∷ 5 ∷ 0 ∷ 0 ∷ 0 ∷ 0 ∷ 0 ∷ 0xf8 ∷ 0x7f ∷ []

abbrev three : List ℕ → List ℕ
three rest = 3 ∷ 0 ∷ rest

-- ---- written and read back
written : sheet_bytes 3 sample ≡ three (first ++ last)
unfolding sheet_bytes records_to patch_bytes record_bytes part bits_of bytes_of
written = refl

read_back : sheet_match (three (first ++ last)) ≡ sample
unfolding sheet_match records_of records first_record record_with field_at number_at stored
read_back = refl

other_order : sheet_match (three (last ++ first)) ≡ sample
unfolding sheet_match records_of records first_record record_with field_at number_at stored
other_order = refl

matched_two : rows_present sample.perm ≡ 2
unfolding rows_present
matched_two = refl

-- ---- both readers, a file each: what the reader of any order answers, what the canonical one answers of the records
abbrev Answers : List ℕ → ℕ → ℕ → Type 0
Answers sheet fault canonical = (sheet_fault sheet ≡ fault) × (canonical_body sheet ≡ canonical)

as_written : Answers (three (first ++ last)) accepted accepted
unfolding head_fault body_fault no_marks records_of records first_record record_with field_at number_at records_fault canonical_body canonical_fault index_fault
    repeat_fault needless_fault rising_fault bits_of
as_written = (refl, refl)

not_rising : Answers (three (last ++ first)) accepted patch_order
unfolding head_fault body_fault no_marks records_of records first_record record_with field_at number_at records_fault canonical_body canonical_fault index_fault
    repeat_fault needless_fault rising_fault bits_of
not_rising = (refl, refl)

given_twice : Answers (three (last ++ last)) patch_twice patch_order
unfolding head_fault body_fault no_marks records_of records first_record record_with field_at number_at records_fault canonical_body canonical_fault index_fault
    repeat_fault needless_fault rising_fault bits_of
given_twice = (refl, refl)

-- cut in the last number, in a row, and in the first three bytes
cut_number : Answers (three (first ++ take 12 last)) sheet_cut sheet_cut
unfolding head_fault body_fault no_marks records_of records first_record record_with field_at number_at records_fault canonical_body canonical_fault index_fault
    repeat_fault needless_fault rising_fault bits_of
cut_number = (refl, refl)

cut_row : Answers (three (first ++ take 4 last)) sheet_cut sheet_cut
unfolding head_fault body_fault no_marks records_of records first_record record_with field_at number_at records_fault canonical_body canonical_fault index_fault
    repeat_fault needless_fault rising_fault bits_of
cut_row = (refl, refl)

cut_map : Answers (three (first ++ take 2 last)) sheet_cut sheet_cut
unfolding head_fault body_fault no_marks records_of records first_record record_with field_at number_at records_fault canonical_body canonical_fault index_fault
    repeat_fault needless_fault rising_fault bits_of
cut_map = (refl, refl)

-- an unknown bit in a record that is there, and in one whose known bits are cut
unknown_bit : Answers (three (1 ∷ 0 ∷ 16 ∷ [])) sheet_index sheet_index
unfolding head_fault body_fault no_marks records_of records first_record record_with field_at number_at records_fault canonical_body canonical_fault index_fault
    repeat_fault needless_fault rising_fault bits_of
unknown_bit = (refl, refl)

cut_before_unknown : Answers (three (1 ∷ 0 ∷ 17 ∷ 0 ∷ [])) sheet_cut sheet_cut
unfolding head_fault body_fault no_marks records_of records first_record record_with field_at number_at records_fault canonical_body canonical_fault index_fault
    repeat_fault needless_fault rising_fault bits_of
cut_before_unknown = (refl, refl)

-- a patch and a row that are not below n, the patch of a record before a cut
patch_outside : Answers (three (3 ∷ 0 ∷ 1 ∷ 0 ∷ 0 ∷ 9 ∷ [])) sheet_index sheet_index
unfolding head_fault body_fault no_marks records_of records first_record record_with field_at number_at records_fault canonical_body canonical_fault index_fault
    repeat_fault needless_fault rising_fault bits_of
patch_outside = (refl, refl)

row_outside : Answers (three (1 ∷ 0 ∷ 1 ∷ 0xff ∷ 0xff ∷ [])) sheet_index sheet_index
unfolding head_fault body_fault no_marks records_of records first_record record_with field_at number_at records_fault canonical_body canonical_fault index_fault
    repeat_fault needless_fault rising_fault bits_of
row_outside = (refl, refl)

-- an empty map gives its patch; a number that is +0.0 is needless, also where its patch does not rise
empty_map : Answers (three (1 ∷ 0 ∷ 0 ∷ [])) accepted needless_field
unfolding head_fault body_fault no_marks records_of records first_record record_with field_at number_at records_fault canonical_body canonical_fault index_fault
    repeat_fault needless_fault rising_fault bits_of
empty_map = (refl, refl)

empty_map_twice : Answers (three (1 ∷ 0 ∷ 0 ∷ 1 ∷ 0 ∷ 0 ∷ [])) patch_twice needless_field
unfolding head_fault body_fault no_marks records_of records first_record record_with field_at number_at records_fault canonical_body canonical_fault index_fault
    repeat_fault needless_fault rising_fault bits_of
empty_map_twice = (refl, refl)

needless_number : Answers (three (last ++ (2 ∷ 0 ∷ 2 ∷ 0 ∷ 0 ∷ 0 ∷ 0 ∷ 0 ∷ 0 ∷ 0 ∷ 0 ∷ []))) patch_twice needless_field
unfolding head_fault body_fault no_marks records_of records first_record record_with field_at number_at records_fault canonical_body canonical_fault index_fault
    repeat_fault needless_fault rising_fault bits_of
needless_number = (refl, refl)

-- n: absent, above 4,096, at it, and none
no_order : head_fault (3 ∷ []) ≡ sheet_cut
unfolding head_fault number_at
no_order = refl

order_above : head_fault (1 ∷ 16 ∷ []) ≡ sheet_cut
unfolding head_fault number_at
order_above = refl

order_largest : head_fault (0 ∷ 16 ∷ []) ≡ accepted
unfolding head_fault number_at
order_largest = refl

no_column : Answers (0 ∷ 0 ∷ []) accepted accepted
unfolding head_fault body_fault no_marks records_of records first_record record_with field_at number_at records_fault canonical_body canonical_fault index_fault
    repeat_fault needless_fault rising_fault bits_of
no_column = (refl, refl)
