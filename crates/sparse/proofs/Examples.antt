-- The definitions on small matrices, by computation: each refusal once, and what is accepted.
use mathlib.Core.Path.{◌≡◌, refl}
use mathlib.Core.List.{[], ◌∷◌}
use lib.Ieee.{nan}
use Rattle.limits.specs.Limits.{max_general, max_symmetric}
use Rattle.sparse.specs.Fault.{first_of}
use Rattle.sparse.specs.Matrix.{matrix}
use Rattle.sparse.specs.Validate
use Rattle.triplets.specs.Built.{triplets, slices}
use Rattle.sparse.specs.Assemble.{triplet_lengths, triplet_fault, general_triplet, lower_triplet}

-- n = 0 and one pointer
none : Validate.general_fault (matrix 0 (0 ∷ []) [] []) ≡ 0
unfolding first_of Validate.size_fault Validate.pointer_fault Validate.frame_fault Validate.general_column Validate.general_columns Validate.general_fault
none = refl

columns : Validate.general_fault (matrix 4097 [] [] []) ≡ 1
unfolding first_of Validate.size_fault Validate.pointer_fault Validate.frame_fault Validate.general_column Validate.general_columns Validate.general_fault
columns = refl

lengths : Validate.general_fault (matrix 1 (0 ∷ 1 ∷ []) (0 ∷ []) []) ≡ 3
unfolding first_of Validate.size_fault Validate.pointer_fault Validate.frame_fault Validate.general_column Validate.general_columns Validate.general_fault
lengths = refl

-- the last pointer is not the entry count
pointers : Validate.general_fault (matrix 2 (0 ∷ 1 ∷ 1 ∷ []) (0 ∷ 1 ∷ []) (nan ∷ nan ∷ [])) ≡ 4
unfolding first_of Validate.size_fault Validate.pointer_fault Validate.frame_fault Validate.general_column Validate.general_columns Validate.general_fault
pointers = refl

-- rows 1 0 2 in the first column of two: 7 comes before the row out of range, and 5 first where the column is tested for it whole
order : Validate.general_fault (matrix 2 (0 ∷ 3 ∷ 3 ∷ []) (1 ∷ 0 ∷ 2 ∷ []) (nan ∷ nan ∷ nan ∷ [])) ≡ 7
unfolding first_of Validate.size_fault Validate.pointer_fault Validate.frame_fault Validate.general_column Validate.general_columns Validate.general_fault
order = refl

range_first : Validate.symmetric_fault (matrix 2 (0 ∷ 3 ∷ 3 ∷ []) (1 ∷ 0 ∷ 2 ∷ []) (nan ∷ nan ∷ nan ∷ [])) ≡ 5
unfolding first_of Validate.size_fault Validate.pointer_fault Validate.frame_fault Validate.lower_column Validate.rising_column Validate.symmetric_columns
    Validate.symmetric_fault
range_first = refl

above : Validate.symmetric_fault (matrix 2 (0 ∷ 1 ∷ 2 ∷ []) (1 ∷ 0 ∷ []) (nan ∷ nan ∷ [])) ≡ 6
unfolding first_of Validate.size_fault Validate.pointer_fault Validate.frame_fault Validate.lower_column Validate.rising_column Validate.symmetric_columns
    Validate.symmetric_fault
above = refl

-- an empty column
accepted : Validate.symmetric_fault (matrix 3 (0 ∷ 2 ∷ 2 ∷ 3 ∷ []) (0 ∷ 2 ∷ 2 ∷ []) (nan ∷ nan ∷ nan ∷ [])) ≡ 0
unfolding first_of Validate.size_fault Validate.pointer_fault Validate.frame_fault Validate.lower_column Validate.rising_column Validate.symmetric_columns
    Validate.symmetric_fault
accepted = refl

-- ---- triplets
-- (1, 2) in two columns: out of range, though above the diagonal too; (0, 1) is above it
out_first : triplet_fault max_symmetric (lower_triplet 2 (1 ∷ []) (2 ∷ [])) 2 (triplets (1 ∷ []) (2 ∷ []) (nan ∷ []))
    (slices (9 ∷ 9 ∷ 9 ∷ []) (9 ∷ []) (nan ∷ []) (9 ∷ 9 ∷ 9 ∷ 9 ∷ 9 ∷ 9 ∷ 9 ∷ [])) ≡ 5
unfolding first_of Validate.size_fault triplet_lengths triplet_fault
out_first = refl

above_diagonal : triplet_fault max_symmetric (lower_triplet 2 (0 ∷ []) (1 ∷ [])) 2 (triplets (0 ∷ []) (1 ∷ []) (nan ∷ []))
    (slices (9 ∷ 9 ∷ 9 ∷ []) (9 ∷ []) (nan ∷ []) (9 ∷ 9 ∷ 9 ∷ 9 ∷ 9 ∷ 9 ∷ 9 ∷ [])) ≡ 6
unfolding first_of Validate.size_fault triplet_lengths triplet_fault
above_diagonal = refl

-- the work is one short
short_work : triplet_fault max_general (general_triplet 2 (0 ∷ []) (1 ∷ [])) 2 (triplets (0 ∷ []) (1 ∷ []) (nan ∷ []))
    (slices (9 ∷ 9 ∷ 9 ∷ []) (9 ∷ []) (nan ∷ []) (9 ∷ 9 ∷ 9 ∷ 9 ∷ 9 ∷ 9 ∷ [])) ≡ 3
unfolding first_of Validate.size_fault triplet_lengths triplet_fault
short_work = refl
