-- How long parts, records and files are: a record has the length that its map says, and a patch takes at most 29 bytes. By the lengths of
-- appended lists, and by induction on the patches.
use mathlib.Core.Path.{◌≡◌, sym, ◌∙◌}
use mathlib.Core.List.{List}
use Prim.Native.Nat.{ℕ, zero, suc, ◌+◌, ◌*◌, ◌≤◌, ◌<◌}
use native.Mathlib.Nat.{mul-zero, mul-one}
use native.Mathlib.Omega.{arith}
use lib.ListN.{length, get_or, length-append}
use Rattle.limits.specs.Limits.{none}
use Rattle.matching.specs.Match.{Match}
use Rattle.byte_numbers.proofs.Words.{bytes_length}
use Rattle.sheet.specs.declared.Record.{Record}
use Rattle.sheet.specs.Format.{row_bit, u_bit, v_bit, cmax_bit, record_size, part, record_bytes, bits_of, record_for, unless_empty, patch_bytes}
use Rattle.sheet.specs.Format.{records_to, sheet_bytes}
use Rattle.sheet.proofs.Fields.{stands_bit}

pub part_length : (bit width value : ℕ) → bit ≤ 1 → length (part bit width value) ≡ width * bit
unfolding part
part_length zero width value h = sym (mul-zero width)
part_length (suc zero) width value h = bytes_length width value ∙ sym (mul-one width)
part_length (suc (suc bit)) width value h = let z : ⊥ = omega arith in absurd z

pub record_length : (r : Record) → length (record_bytes r) ≡ record_size r.bits
unfolding record_bytes
record_length r =
    let b = r.bits in
    let p = bytes_length 2 r.patch in
    let w = part_length (row_bit b) 2 r.row (omega arith) in
    let x = part_length (u_bit b) 8 r.u (omega arith) in
    let y = part_length (v_bit b) 8 r.v (omega arith) in
    let z = part_length (cmax_bit b) 8 r.cmax (omega arith) in
    simp length-append (omega arith)

pub size_most : (bits : ℕ) → record_size bits ≤ 29
size_most bits = omega arith

pub size_least : (bits : ℕ) → 3 ≤ record_size bits
size_least bits = omega arith

-- a map that the writer makes has known bits only
pub bits_small : (row u v cmax : ℕ) → bits_of row u v cmax < 16
unfolding bits_of
bits_small row u v cmax = omega (arith, stands_bit none row, stands_bit 0 u, stands_bit 0 v, stands_bit 0 cmax)

unless_length : (bits : ℕ) (bytes : List ℕ) (most : ℕ) → length bytes ≤ most → length (unless_empty bits bytes) ≤ most
unless_length zero bytes most h = omega arith
unless_length (suc bits) bytes most h = h

pub patch_length : (patch row u v cmax : ℕ) → length (patch_bytes patch row u v cmax) ≤ 29
unfolding patch_bytes
patch_length patch row u v cmax =
    let r = record_for patch row u v cmax in
    unless_length (bits_of row u v cmax) (record_bytes r) 29 (rw (record_length r) (size_most r.bits))

pub records_length : (k : ℕ) (m : Match ℕ) → length (records_to k m) ≤ 29 * k
unfolding records_to
records_length zero m = omega arith
records_length (suc k) m =
    let l = records_length k m in
    let p = patch_length k (get_or m.perm k 0) (get_or m.u k 0) (get_or m.v k 0) (get_or m.cmax k 0) in
    simp length-append (omega arith)

pub sheet_length : (n : ℕ) (m : Match ℕ) → length (sheet_bytes n m) ≤ 2 + 29 * n
unfolding sheet_bytes
sheet_length n m = let p = bytes_length 2 n in let l = records_length n m in simp length-append (omega arith)
