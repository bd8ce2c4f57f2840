-- What `validate` answers: SPECIFICATION 3.4's numbers 1, 2, 3, 4, then the columns upward. In a general matrix each
-- entry is tested for 5, then 7; in a symmetric one all entries of a column for 5, then 6, and only then the column for
-- 7.
use Rattle.std.specs.Prelude.{Bool, ◌&&◌, ◌||◌, List, ℕ, suc, pred, ◌+◌, ◌-◌, leb, ltb, eqb, Float, length, get_or}
use Rattle.limits.specs.Limits.{max_columns, max_general, max_symmetric}
use Rattle.refusal.specs.Refusal.{too_many_columns, too_many_entries, slice_length, column_pointers, index_range}
use Rattle.refusal.specs.Refusal.{upper_triangle, rows_not_rising}
use Rattle.sparse.specs.Fault.{unless, or_else, first_of}
use Rattle.sparse.specs.Pattern.{Pattern, entries}
use Rattle.sparse.specs.Matrix.{Matrix}

-- 1, 2, 3: n, the entry count against its limit, and whether every slice has its length
unfoldable pub size_fault : (n limit count : ℕ) → Bool → ℕ
size_fault n limit count lengths =
    or_else (unless (leb n max_columns) too_many_columns)
    (or_else (unless (leb count limit) too_many_entries) (unless lengths slice_length))

-- 4 of pointer j: the next one is less
abbrev pub fall_at : List ℕ → ℕ → ℕ
fall_at col_ptr j = unless (leb (get_or col_ptr j 0) (get_or col_ptr (suc j) 0)) column_pointers

-- 4: the first pointer is 0, the last the entry count, and none falls
unfoldable pub pointer_fault : ℕ → List ℕ → ℕ → ℕ
pointer_fault n col_ptr count =
    or_else (unless (eqb (get_or col_ptr 0 0) 0) column_pointers)
    (or_else (unless (eqb (get_or col_ptr n 0) count) column_pointers) (first_of n (fall_at col_ptr) 0))

-- general: entry k of a column that starts at `from`
abbrev pub general_entry : ℕ → List ℕ → ℕ → ℕ → ℕ
general_entry n rows from k =
    or_else (unless (ltb (get_or rows k 0) n) index_range)
    (unless (leb k from || ltb (get_or rows (pred k) 0) (get_or rows k 0)) rows_not_rising)

unfoldable pub general_column : ℕ → List ℕ → ℕ → ℕ → ℕ
general_column n rows from to = first_of (to - from) (general_entry n rows from) from

unfoldable pub general_columns : ℕ → List ℕ → List ℕ → ℕ
general_columns n col_ptr rows =
    first_of n (λ j. general_column n rows (get_or col_ptr j 0) (get_or col_ptr (suc j) 0)) 0

-- 1, 2, 3, 4, then 5 and 7 of each entry: the tests of a general matrix without its values, with the lengths of all
-- slices in the place of 3
unfoldable pub pattern_fault : Pattern → Bool → ℕ
pattern_fault p lengths =
    or_else (size_fault p.n max_general (entries p) lengths)
    (or_else (pointer_fault p.n p.col_ptr (entries p)) (general_columns p.n p.col_ptr p.row_idx))

-- symmetric: entry k of column j
abbrev pub lower_entry : ℕ → List ℕ → ℕ → ℕ → ℕ
lower_entry n rows j k =
    or_else (unless (ltb (get_or rows k 0) n) index_range) (unless (leb j (get_or rows k 0)) upper_triangle)

-- the entries at k and suc k
abbrev pub rising_pair : List ℕ → ℕ → ℕ
rising_pair rows k = unless (ltb (get_or rows k 0) (get_or rows (suc k) 0)) rows_not_rising

unfoldable pub lower_column : ℕ → List ℕ → ℕ → ℕ → ℕ → ℕ
lower_column n rows j from to = first_of (to - from) (lower_entry n rows j) from

unfoldable pub rising_column : List ℕ → ℕ → ℕ → ℕ
rising_column rows from to = first_of (pred to - from) (rising_pair rows) from

-- all entries for 5 then 6, and only then the column for 7
abbrev pub symmetric_column : ℕ → List ℕ → ℕ → ℕ → ℕ → ℕ
symmetric_column n rows j from to = or_else (lower_column n rows j from to) (rising_column rows from to)

unfoldable pub symmetric_columns : ℕ → List ℕ → List ℕ → ℕ
symmetric_columns n col_ptr rows =
    first_of n (λ j. symmetric_column n rows j (get_or col_ptr j 0) (get_or col_ptr (suc j) 0)) 0

-- the lengths of a matrix's slices
abbrev pub matrix_lengths : ℕ → List ℕ → List ℕ → List Float → Bool
matrix_lengths n col_ptr rows values = eqb (length col_ptr) (n + 1) && eqb (length values) (length rows)

-- sizes and pointers, before the columns
unfoldable pub frame_fault : ℕ → Matrix → ℕ
frame_fault limit m =
    let p = m.pattern in
    or_else (size_fault p.n limit (entries p) (matrix_lengths p.n p.col_ptr p.row_idx m.values))
    (pointer_fault p.n p.col_ptr (entries p))

-- the first thing wrong with a general matrix, or 0: what `general::validate` answers
unfoldable pub general_fault : Matrix → ℕ
general_fault m =
    let p = m.pattern in
    or_else (frame_fault max_general m) (general_columns p.n p.col_ptr p.row_idx)

-- the first thing wrong with a symmetric matrix, or 0: what `csc::validate` answers
unfoldable pub symmetric_fault : Matrix → ℕ
symmetric_fault m =
    let p = m.pattern in
    or_else (frame_fault max_symmetric m) (symmetric_columns p.n p.col_ptr p.row_idx)
