-- Which numbers the tests of matrices and triplets answer, for any input: `..-listed`, from the tests of each fault.
use mathlib.Core.Path.{◌≡◌, refl}
use mathlib.Core.Bool.{Bool, true, false, ◌||◌, ◌&&◌}
use mathlib.Core.List.{List, [], ◌∷◌}
use Prim.Native.Nat.{ℕ, zero, suc, pred, ◌-◌}
use lib.Dec.{leb, ltb, eqb}
use lib.ListN.{length, get_or}
use Rattle.limits.specs.Limits.{max_columns, max_general, max_symmetric}
use Rattle.refusal.specs.Refusal.{accepted, too_many_columns, too_many_entries, slice_length, column_pointers, index_range, upper_triangle, rows_not_rising}
use Rattle.refusal.specs.Listed.{listed, general_numbers, symmetric_numbers, general_triplet_numbers, symmetric_triplet_numbers}
use Rattle.triplets.specs.Built.{Triplets, Slices}
use Rattle.sparse.specs.Pattern.{Pattern, entries}
use Rattle.sparse.specs.Matrix.{Matrix}
use Rattle.sparse.specs.Validate
use Rattle.refusal.specs.Number.{fault_of}
use Rattle.sparse.specs.Assemble.{outcome, general_triplet, triplet_fault, general_triplet_fault, symmetric_triplet_fault, general_assembly}
use Rattle.sparse.specs.Assemble.{triplet_numbers, triplet_fault_of}
use Rattle.sparse.specs.Assemble.{symmetric_assembly}
use Rattle.sparse.proofs.Listed.{Listed, test, or_listed, first_listed, within, part}

-- ---- parts
abbrev pub size_numbers : List ℕ
size_numbers = accepted ∷ too_many_columns ∷ too_many_entries ∷ slice_length ∷ []

pub sizes_listed : (n limit count : ℕ) (lengths : Bool) → Listed size_numbers (Validate.size_fault n limit count lengths)
unfolding listed Validate.size_fault
sizes_listed n limit count lengths =
    or_listed (test (leb n max_columns) too_many_columns refl refl)
    (or_listed (test (leb count limit) too_many_entries refl refl) (test lengths slice_length refl refl))

abbrev pub pointer_numbers : List ℕ
pointer_numbers = accepted ∷ column_pointers ∷ []

pub pointers_listed : (n : ℕ) (col_ptr : List ℕ) (count : ℕ) → Listed pointer_numbers (Validate.pointer_fault n col_ptr count)
unfolding listed Validate.pointer_fault
pointers_listed n col_ptr count =
    or_listed (test (eqb (get_or col_ptr 0 0) 0) column_pointers refl refl)
    (or_listed (test (eqb (get_or col_ptr n 0) count) column_pointers refl refl)
    (first_listed n 0 refl (λ j. test (leb (get_or col_ptr j 0) (get_or col_ptr (suc j) 0)) column_pointers refl refl)))

abbrev pub column_numbers : List ℕ
column_numbers = accepted ∷ index_range ∷ rows_not_rising ∷ []

pub general_columns_listed : (n : ℕ) (col_ptr rows : List ℕ) → Listed column_numbers (Validate.general_columns n col_ptr rows)
unfolding listed Validate.general_columns Validate.general_column
general_columns_listed n col_ptr rows =
    first_listed n 0 refl (λ j. first_listed (get_or col_ptr (suc j) 0 - get_or col_ptr j 0) (get_or col_ptr j 0) refl (entry (get_or col_ptr j 0)))
  where
    entry : (from k : ℕ) → Listed column_numbers (Validate.general_entry n rows from k)
    entry from k =
        or_listed (test (ltb (get_or rows k 0) n) index_range refl refl)
        (test (leb k from || ltb (get_or rows (pred k) 0) (get_or rows k 0)) rows_not_rising refl refl)

abbrev lower_numbers : List ℕ
lower_numbers = accepted ∷ index_range ∷ upper_triangle ∷ rows_not_rising ∷ []

symmetric_columns_listed : (n : ℕ) (col_ptr rows : List ℕ) → Listed lower_numbers (Validate.symmetric_columns n col_ptr rows)
unfolding listed Validate.symmetric_columns Validate.lower_column Validate.rising_column
symmetric_columns_listed n col_ptr rows = first_listed n 0 refl (λ j. column j (get_or col_ptr j 0) (get_or col_ptr (suc j) 0))
  where
    column : (j from to : ℕ) → Listed lower_numbers (Validate.symmetric_column n rows j from to)
    column j from to =
        or_listed
        (first_listed (to - from) from refl
        (λ k. or_listed (test (ltb (get_or rows k 0) n) index_range refl refl) (test (leb j (get_or rows k 0)) upper_triangle refl refl)))
        (first_listed (pred to - from) from refl (λ k. test (ltb (get_or rows k 0) (get_or rows (suc k) 0)) rows_not_rising refl refl))

-- ---- a pattern
pub pattern_listed : (p : Pattern) (lengths : Bool) → Listed general_numbers (Validate.pattern_fault p lengths)
unfolding listed within Validate.pattern_fault
pattern_listed p lengths =
    or_listed (part size_numbers (sizes_listed p.n max_general (entries p) lengths) refl)
    (or_listed (part pointer_numbers (pointers_listed p.n p.col_ptr (entries p)) refl)
    (part column_numbers (general_columns_listed p.n p.col_ptr p.row_idx) refl))

-- ---- `validate`
module _ (m : Matrix) where
  abbrev n : ℕ
  n = m.pattern.n

  abbrev col_ptr : List ℕ
  col_ptr = m.pattern.col_ptr

  abbrev rows : List ℕ
  rows = m.pattern.row_idx

  pub general_listed : Listed general_numbers (Validate.general_fault m)
  unfolding listed within Validate.general_fault Validate.frame_fault
  general_listed =
      or_listed
      (or_listed (part size_numbers (sizes_listed n max_general (length rows) (Validate.matrix_lengths n col_ptr rows m.values)) refl)
      (part pointer_numbers (pointers_listed n col_ptr (length rows)) refl))
      (part column_numbers (general_columns_listed n col_ptr rows) refl)

  pub symmetric_listed : Listed symmetric_numbers (Validate.symmetric_fault m)
  unfolding listed within Validate.symmetric_fault Validate.frame_fault
  symmetric_listed =
      or_listed
      (or_listed (part size_numbers (sizes_listed n max_symmetric (length rows) (Validate.matrix_lengths n col_ptr rows m.values)) refl)
      (part pointer_numbers (pointers_listed n col_ptr (length rows)) refl))
      (part lower_numbers (symmetric_columns_listed n col_ptr rows) refl)

-- ---- `from_triplets`
module _ (n : ℕ) (t : Triplets) (s : Slices) where
  -- the number of an outcome is its fault
  numbered_fault : {l : List ℕ} (fault : ℕ) → Listed l fault → Listed l (fault_of (outcome fault n t s).answer)
  numbered_fault zero p = p
  numbered_fault (suc fault) p = p

  within_range : {l : List ℕ} (k : ℕ) → listed l 0 ≡ true → listed l index_range ≡ true → Listed l (general_triplet n t.rows t.cols k)
  within_range k z p = test (ltb (get_or t.rows k 0) n && ltb (get_or t.cols k 0) n) index_range z p

  pub general_fault_listed : Listed general_triplet_numbers (general_triplet_fault n t s)
  unfolding listed within triplet_fault
  general_fault_listed =
      or_listed (part size_numbers (sizes_listed n max_general (length t.rows) _) refl)
      (first_listed (length t.rows) 0 refl (λ k. within_range k refl refl))

  pub symmetric_fault_listed : Listed symmetric_triplet_numbers (symmetric_triplet_fault n t s)
  unfolding listed within triplet_fault
  symmetric_fault_listed =
      or_listed (part size_numbers (sizes_listed n max_symmetric (length t.rows) _) refl)
      (first_listed (length t.rows) 0 refl
      (λ k. or_listed (within_range k refl refl) (test (leb (get_or t.cols k 0) (get_or t.rows k 0)) upper_triangle refl refl)))

  pub triplet_fault_listed : (lower : Bool) → Listed (triplet_numbers lower) (triplet_fault_of lower n t s)
  triplet_fault_listed true = symmetric_fault_listed
  triplet_fault_listed false = general_fault_listed

  pub general_triplets_listed : Listed general_triplet_numbers (fault_of (general_assembly n t s).answer)
  unfolding general_assembly
  general_triplets_listed = numbered_fault _ general_fault_listed

  pub symmetric_triplets_listed : Listed symmetric_triplet_numbers (fault_of (symmetric_assembly n t s).answer)
  unfolding symmetric_assembly
  symmetric_triplets_listed = numbered_fault _ symmetric_fault_listed
