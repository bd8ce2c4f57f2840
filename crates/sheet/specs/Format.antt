-- SPECIFICATION 5.16: The sheet file: n in two bytes, then records, each of a patch number, a map of bits and the
-- fields whose bits are set. All numbers are low byte first. u, v and cmax are the bits of doubles.
use Rattle.std.specs.Prelude.{Bool, true, cond, ◌&&◌, ◌||◌, List, [], ◌∷◌, ◌++◌, ℕ, zero, suc, ◌+◌, ◌*◌, ◌/◌, ◌%◌, eqb, leb, ltb, length, get_or, Option, Some, None}
use Rattle.limits.specs.Limits.{none}
use Rattle.matching.specs.Match.{Match}
use Rattle.byte_numbers.specs.Bytes.{bytes_of, number_at}
use Rattle.sheet.specs.declared.Record.{Record}

-- ---- the map of bits
abbrev pub row_bit : ℕ → ℕ
row_bit bits = bits % 2

abbrev pub u_bit : ℕ → ℕ
u_bit bits = bits / 2 % 2

abbrev pub v_bit : ℕ → ℕ
v_bit bits = bits / 4 % 2

abbrev pub cmax_bit : ℕ → ℕ
cmax_bit bits = bits / 8 % 2

-- where u, v and cmax begin in a record, and its length; unknown bits have no field
abbrev pub u_at : ℕ → ℕ
u_at bits = 3 + 2 * row_bit bits

abbrev pub v_at : ℕ → ℕ
v_at bits = u_at bits + 8 * u_bit bits

abbrev pub cmax_at : ℕ → ℕ
cmax_at bits = v_at bits + 8 * v_bit bits

abbrev pub record_size : ℕ → ℕ
record_size bits = cmax_at bits + 8 * cmax_bit bits

-- ---- a record read
-- the field of a bit: what its absence means, or the number in the record
unfoldable pub field_at : (bit absent width : ℕ) → List ℕ → ℕ → ℕ
field_at zero absent width bytes at = absent
field_at (suc bit) absent width bytes at = number_at width bytes at

-- the record with this map at the front of the bytes
unfoldable pub record_with : ℕ → List ℕ → Record
record_with bits bytes = record {
  patch = number_at 2 bytes 0;
  bits = bits;
  row = field_at (row_bit bits) none 2 bytes 3;
  u = field_at (u_bit bits) 0 8 bytes (u_at bits);
  v = field_at (v_bit bits) 0 8 bytes (v_at bits);
  cmax = field_at (cmax_bit bits) 0 8 bytes (cmax_at bits);
  size = record_size bits;
}

-- the record at the front, or cut: one of its first three bytes, or bytes of its known bits, are missing (a map that
-- is missing reads as 0, whose record has three bytes)
unfoldable pub first_record : List ℕ → Option Record
first_record bytes =
    cond (leb (record_size (get_or bytes 2 0)) (length bytes)) (Some (record_with (get_or bytes 2 0) bytes)) None

-- ---- a record written
-- a field if its bit is set, else nothing
unfoldable pub part : (bit width value : ℕ) → List ℕ
part zero width value = []
part (suc bit) width value = bytes_of width value

unfoldable pub record_bytes : Record → List ℕ
record_bytes r =
    bytes_of 2 r.patch
    ++ (r.bits ∷ (part (row_bit r.bits) 2 r.row ++ (part (u_bit r.bits) 8 r.u
    ++ (part (v_bit r.bits) 8 r.v ++ part (cmax_bit r.bits) 8 r.cmax))))

-- 1 if a value differs from what its absence means
abbrev pub stands : (absent value : ℕ) → ℕ
stands absent value = cond (eqb value absent) 0 1

-- the map with a bit for each such field
unfoldable pub bits_of : (row u v cmax : ℕ) → ℕ
bits_of row u v cmax = stands none row + 2 * stands 0 u + 4 * stands 0 v + 8 * stands 0 cmax

abbrev pub record_for : (patch row u v cmax : ℕ) → Record
record_for patch row u v cmax =
    let bits = bits_of row u v cmax in
    record { patch = patch; bits = bits; row = row; u = u; v = v; cmax = cmax; size = record_size bits }

-- nothing for a record without a field
abbrev pub unless_empty : ℕ → List ℕ → List ℕ
unless_empty zero bytes = []
unless_empty (suc bits) bytes = bytes

unfoldable pub patch_bytes : (patch row u v cmax : ℕ) → List ℕ
patch_bytes patch row u v cmax = unless_empty (bits_of row u v cmax) (record_bytes (record_for patch row u v cmax))

-- the records of the patches below `count`, rising
unfoldable pub records_to : ℕ → Match ℕ → List ℕ
records_to zero m = []
records_to (suc k) m =
    records_to k m ++ patch_bytes k (get_or m.perm k 0) (get_or m.u k 0) (get_or m.v k 0) (get_or m.cmax k 0)

-- the file of a match of n columns
unfoldable pub sheet_bytes : ℕ → Match ℕ → List ℕ
sheet_bytes n m = bytes_of 2 n ++ records_to n m

-- ---- rows
-- none, or a row
abbrev pub row_or_none : ℕ → ℕ → Bool
row_or_none n row = eqb row none || ltb row n

unfoldable pub rows_fit : ℕ → List ℕ → Bool
rows_fit n [] = true
rows_fit n (row ∷ perm) = row_or_none n row && rows_fit n perm

-- the matched count: how many columns have a row
unfoldable pub rows_present : List ℕ → ℕ
rows_present [] = 0
rows_present (row ∷ perm) = stands none row + rows_present perm
