-- SPECIFICATION 5.16: What a sheet file means, and the refusal of a bad file: at the first record at fault.
use Rattle.std.specs.Prelude.{◌≡◌, ◌&&◌, List, [], ◌∷◌, ℕ, zero, suc, eqb, leb, ltb, length, get_or, set, drop, replicate, Option, Some, None}
use Rattle.limits.specs.Limits.{none, max_columns}
use Rattle.refusal.specs.Refusal.{accepted, sheet_cut, sheet_index, patch_twice}
use Rattle.sparse.specs.Fault.{unless, or_else}
use Rattle.matching.specs.Match.{Match, match_of}
use Rattle.byte_numbers.specs.Bytes.{number_at}
use Rattle.sheet.specs.declared.Record.{Record}
use Rattle.sheet.specs.Format.{record_size, first_record, row_or_none}

-- ---- the records of the bytes after n
-- a record and those after it; nothing is read after a cut
abbrev pub follow : Option Record → List (Option Record) → List (Option Record)
follow (Some r) behind = Some r ∷ behind
follow None behind = None ∷ []

-- the bytes after a record
abbrev pub behind : Option Record → List ℕ → List ℕ
behind (Some r) bytes = drop (record_size r.bits) bytes
behind None bytes = []

-- at most `fuel` records
unfoldable pub records : ℕ → List ℕ → List (Option Record)
records zero bytes = []
records (suc fuel) [] = []
records (suc fuel) (byte ∷ bytes) =
    follow (first_record (byte ∷ bytes)) (records fuel (behind (first_record (byte ∷ bytes)) (byte ∷ bytes)))

-- all of them: there are fewer records than bytes
unfoldable pub records_of : List ℕ → List (Option Record)
records_of bytes = records (length bytes) bytes

-- ---- the first record at fault
-- 41: an unknown bit, or a patch or a row that is not below n
unfoldable pub index_fault : ℕ → Record → ℕ
index_fault n r = unless (ltb r.bits 16 && (ltb r.patch n && row_or_none n r.row)) sheet_index

-- 42: a patch that was given before, as its mark says
unfoldable pub repeat_fault : ℕ → ℕ
repeat_fault mark = unless (eqb mark 0) patch_twice

-- the first fault of the records after those that left the marks
unfoldable pub records_fault : ℕ → List ℕ → List (Option Record) → ℕ
records_fault n marks [] = accepted
records_fault n marks (None ∷ rest) = sheet_cut
records_fault n marks (Some r ∷ rest) =
    or_else (index_fault n r)
    (or_else (repeat_fault (get_or marks r.patch 0)) (records_fault n (set marks r.patch 1) rest))

-- ---- what records mean
-- a match of n columns without a record
abbrev pub blank : ℕ → Match ℕ
blank n = match_of (replicate n none) (replicate n 0) (replicate n 0) (replicate n 0)

-- the fields of a record stored at its patch
abbrev pub store : Record → Match ℕ → Match ℕ
store r m =
    match_of (set m.perm r.patch r.row) (set m.u r.patch r.u) (set m.v r.patch r.v)
    (set m.cmax r.patch r.cmax)

unfoldable pub stored : List (Option Record) → Match ℕ → Match ℕ
stored [] m = m
stored (None ∷ rest) m = m
stored (Some r ∷ rest) m = stored rest (store r m)

-- ---- a file
-- n is at most 4,096, which is the number of marks
abbrev pub max_patches : ℕ
max_patches = max_columns

abbrev pub order_of : List ℕ → ℕ
order_of sheet = number_at 2 sheet 0

-- 40: shorter than two bytes, or n too large
unfoldable pub head_fault : List ℕ → ℕ
head_fault sheet = unless (leb 2 (length sheet) && leb (order_of sheet) max_patches) sheet_cut

-- no patch is marked
unfoldable pub no_marks : List ℕ
no_marks = replicate max_patches 0

-- the first record at fault
unfoldable pub body_fault : List ℕ → ℕ
body_fault sheet = records_fault (order_of sheet) no_marks (records_of (drop 2 sheet))

-- the fault of a whole file
abbrev pub sheet_fault : List ℕ → ℕ
sheet_fault sheet = or_else (head_fault sheet) (body_fault sheet)

-- the match that it means
unfoldable pub sheet_match : List ℕ → Match ℕ
sheet_match sheet = stored (records_of (drop 2 sheet)) (blank (order_of sheet))

-- a file is taken, and means a match of n columns
pub record Means (sheet : List ℕ) (n : ℕ) (m : Match ℕ) : Type 0 where
  pub taken : sheet_fault sheet ≡ accepted
  pub order : order_of sheet ≡ n
  pub same : sheet_match sheet ≡ m
