-- The records of bytes, one after the other, and a record's bytes read back. By induction on the bytes that are left; each field is where the
-- parts before it end.
use Rattle.std.proofs.Common.{Option, Some, None}
use mathlib.Core.Path.{◌≡◌, refl, sym, ap, ap₂, ◌∙◌}
use mathlib.Core.Bool.{Bool, true, false, cond}
use mathlib.Core.List.{List, [], ◌∷◌, ◌++◌, append_assoc}
use borrow.Author.Tests.{leb-true}
use lib.Dec.{leb}
use Prim.Native.Nat.{ℕ, zero, suc, ◌+◌, ◌*◌, ◌^◌, ◌≤◌, ◌<◌}
use native.Mathlib.Nat.{add-zero, add-suc, not-suc-le-zero, le_of_suc-le-suc}
use native.Mathlib.Omega.{arith}
use lib.ListN.{length, get_or, drop, length-append, length-drop}
use lib.Seq.{drop-drop, drop_at, get_or-drop}
use Rattle.limits.specs.Limits.{none}
use Rattle.byte_numbers.specs.Bytes.{bytes_of, number_at}
use Rattle.byte_numbers.proofs.ReadBack.{number_back}
use Rattle.sheet.specs.declared.Record.{Record}
use Rattle.sheet.specs.Format.{row_bit, u_bit, v_bit, cmax_bit, u_at, v_at, cmax_at, record_size, field_at, record_with, first_record, part, record_bytes}
use Rattle.sheet.specs.Reading.{follow, behind, records, records_of}
use Rattle.sheet.proofs.Fields.{first-is}
use Rattle.sheet.proofs.Lengths.{part_length, record_length, size_least}

-- ---- more fuel than bytes makes no difference
same_follow : (f g : ℕ) (found : Option Record) (byte : ℕ) (bytes : List ℕ) → length bytes ≤ f → length bytes ≤ g
    → ((rest : List ℕ) → length rest ≤ f → length rest ≤ g → records f rest ≡ records g rest)
    → follow found (records f (behind found (byte ∷ bytes))) ≡ follow found (records g (behind found (byte ∷ bytes)))
same_follow f g (Some r) byte bytes h k ih =
    let rest = drop (record_size r.bits) (byte ∷ bytes) in
    let s : length rest ≤ length bytes = rw (length-drop (record_size r.bits) (byte ∷ bytes)) (omega (arith, size_least r.bits)) in
    ap (λ (l : List (Option Record)). Some r ∷ l) (ih rest (omega arith) (omega arith))
same_follow f g None byte bytes h k ih = refl

enough : (f g : ℕ) (bytes : List ℕ) → length bytes ≤ f → length bytes ≤ g → records f bytes ≡ records g bytes
unfolding records
enough zero zero bytes h k = refl
enough zero (suc g) [] h k = refl
enough zero (suc g) (byte ∷ bytes) h k = absurd (not-suc-le-zero h)
enough (suc f) zero [] h k = refl
enough (suc f) zero (byte ∷ bytes) h k = absurd (not-suc-le-zero k)
enough (suc f) (suc g) [] h k = refl
enough (suc f) (suc g) (byte ∷ bytes) h k =
    same_follow f g (first_record (byte ∷ bytes)) byte bytes (le_of_suc-le-suc h) (le_of_suc-le-suc k) (λ rest a b. enough f g rest a b)

-- ---- the first record and those behind it
pub records_is : (bytes : List ℕ) (r : Record) → 0 < length bytes → first_record bytes ≡ Some r → records_of bytes ≡ Some r ∷ records_of
    (drop (record_size r.bits) bytes)
unfolding records_of records
records_is [] r h e = absurd (not-suc-le-zero h)
records_is (byte ∷ bytes) r h e =
    let rest = drop (record_size r.bits) (byte ∷ bytes) in
    let s : length rest ≤ length bytes = rw (length-drop (record_size r.bits) (byte ∷ bytes)) (omega (arith, size_least r.bits)) in
    ap (λ (found : Option Record). follow found (records (length bytes) (behind found (byte ∷ bytes)))) e
    ∙ ap (λ (l : List (Option Record)). Some r ∷ l) (enough (length bytes) (length rest) rest s (omega arith))

pub records_cut : (bytes : List ℕ) → 0 < length bytes → first_record bytes ≡ None → records_of bytes ≡ None ∷ []
unfolding records_of records
records_cut [] h e = absurd (not-suc-le-zero h)
records_cut (byte ∷ bytes) h e = ap (λ (found : Option Record). follow found (records (length bytes) (behind found (byte ∷ bytes)))) e

pub records_end : (bytes : List ℕ) → length bytes ≡ 0 → records_of bytes ≡ []
unfolding records_of records
records_end [] e = refl
records_end (byte ∷ bytes) e = let z : ⊥ = omega arith in absurd z

-- ---- numbers and fields behind a place
pub number_drop : (w : ℕ) (l : List ℕ) (k j : ℕ) → number_at w l (k + j) ≡ number_at w (drop k l) j
unfolding number_at
number_drop zero l k j = refl
number_drop (suc w) l k j = ap₂ (λ (a b : ℕ). a + 256 * b) (sym (get_or-drop k l j 0)) (ap (number_at w l) (sym (add-suc k j)) ∙ number_drop w l k (suc j))

pub field_drop : (bit absent w : ℕ) (l : List ℕ) (at : ℕ) → field_at bit absent w l at ≡ field_at bit absent w (drop at l) 0
unfolding field_at
field_drop zero absent w l at = refl
field_drop (suc bit) absent w l at = ap (number_at w l) (sym (add-zero at)) ∙ number_drop w l at 0

-- a value that a field of this bit may have
abbrev pub Fits : (bit absent width value : ℕ) → Type 0
Fits zero absent width value = value ≡ absent
Fits (suc bit) absent width value = value < 256 ^ width

field_back : (bit absent width value : ℕ) (rest : List ℕ) → Fits bit absent width value → field_at bit absent width (part bit width value ++ rest) 0 ≡ value
unfolding field_at part
field_back zero absent width value rest e = sym e
field_back (suc bit) absent width value rest h = number_back width value rest h

-- a part at a place: its value, and what stands behind it
module _ (bit absent width value : ℕ) (l rest : List ℕ) (at : ℕ) (e : drop at l ≡ part bit width value ++ rest) where
  part_read : Fits bit absent width value → field_at bit absent width l at ≡ value
  part_read f = field_drop bit absent width l at ∙ ap (λ (x : List ℕ). field_at bit absent width x 0) e ∙ field_back bit absent width value rest f

  part_behind : bit ≤ 1 → drop (at + width * bit) l ≡ rest
  part_behind h = sym (drop-drop (width * bit) at l) ∙ ap (drop (width * bit)) e ∙ drop_at (part bit width value) rest (width * bit)
      (part_length bit width value h)

-- ---- a record's bytes
pub record Proper (r : Record) : Type 0 where
  pub patch : r.patch < 256 ^ 2
  pub row : Fits (row_bit r.bits) none 2 r.row
  pub u : Fits (u_bit r.bits) 0 8 r.u
  pub v : Fits (v_bit r.bits) 0 8 r.v
  pub cmax : Fits (cmax_bit r.bits) 0 8 r.cmax
  pub size : r.size ≡ record_size r.bits

module _ (r : Record) (rest : List ℕ) where
  abbrev bytes : List ℕ
  bytes = record_bytes r ++ rest

  abbrev b : ℕ
  b = r.bits

  abbrev cmax_part : List ℕ
  cmax_part = part (cmax_bit b) 8 r.cmax

  abbrev v_part : List ℕ
  v_part = part (v_bit b) 8 r.v ++ cmax_part

  abbrev u_part : List ℕ
  u_part = part (u_bit b) 8 r.u ++ v_part

  at_row : drop 3 bytes ≡ part (row_bit b) 2 r.row ++ (u_part ++ rest)
  unfolding record_bytes bytes_of
  at_row = append_assoc (part (row_bit b) 2 r.row) u_part rest

  at_u : drop (u_at b) bytes ≡ part (u_bit b) 8 r.u ++ (v_part ++ rest)
  at_u = part_behind (row_bit b) none 2 r.row bytes (u_part ++ rest) 3 at_row (omega arith) ∙ append_assoc (part (u_bit b) 8 r.u) v_part rest

  at_v : drop (v_at b) bytes ≡ part (v_bit b) 8 r.v ++ (cmax_part ++ rest)
  at_v = part_behind (u_bit b) 0 8 r.u bytes (v_part ++ rest) (u_at b) at_u (omega arith) ∙ append_assoc (part (v_bit b) 8 r.v) cmax_part rest

  at_cmax : drop (cmax_at b) bytes ≡ cmax_part ++ rest
  at_cmax = part_behind (v_bit b) 0 8 r.v bytes (cmax_part ++ rest) (v_at b) at_v (omega arith)

  pub record_behind : drop (record_size b) bytes ≡ rest
  record_behind = part_behind (cmax_bit b) 0 8 r.cmax bytes rest (cmax_at b) at_cmax (omega arith)

  map_is : get_or bytes 2 0 ≡ b
  unfolding record_bytes bytes_of
  map_is = refl

  patch_is : r.patch < 256 ^ 2 → number_at 2 bytes 0 ≡ r.patch
  unfolding record_bytes bytes_of
  patch_is h = number_back 2 r.patch _ h

  long_enough : record_size b ≤ length bytes
  long_enough = rw (length-append (record_bytes r) rest) (omega (arith, record_length r))

  with_is : Proper r → record_with b bytes ≡ r
  unfolding record_with
  with_is p = rw (
    patch_is p.patch,
    part_read (row_bit b) none 2 r.row bytes (u_part ++ rest) 3 at_row p.row,
    part_read (u_bit b) 0 8 r.u bytes (v_part ++ rest) (u_at b) at_u p.u,
    part_read (v_bit b) 0 8 r.v bytes (cmax_part ++ rest) (v_at b) at_v p.v,
    part_read (cmax_bit b) 0 8 r.cmax bytes rest (cmax_at b) at_cmax p.cmax,
    ← p.size,
  ) refl

  first_back : Proper r → first_record bytes ≡ Some r
  first_back p =
      sym (first-is bytes (rw map_is long_enough))
      ∙ ap (λ (x : ℕ). Some (record_with x bytes)) map_is ∙ ap Some (with_is p)

  pub record_back : Proper r → records_of bytes ≡ Some r ∷ records_of rest
  record_back p =
      records_is bytes r (omega (arith, long_enough, size_least b)) (first_back p)
      ∙ ap (λ (x : List ℕ). Some r ∷ records_of x) record_behind

-- ---- a record that was found
cond_is : (t : Bool) (found r : Record) → cond t (Some found) None ≡ Some r → (t ≡ true) × (found ≡ r)
cond_is true found r e = (refl, cc)
cond_is false found r e = let z : ◌≡◌ {A = ℕ} 0 1 = cc in absurd (let q : ⊥ = omega arith in q)

pub first_found : (bytes : List ℕ) (r : Record) → first_record bytes ≡ Some r → (record_size (get_or bytes 2 0) ≤ length bytes)
    × (record_with (get_or bytes 2 0) bytes ≡ r)
unfolding first_record
first_found bytes r e =
    let s = cond_is (leb (record_size (get_or bytes 2 0)) (length bytes)) (record_with (get_or bytes 2 0) bytes) r e in
    (leb-true (record_size (get_or bytes 2 0)) (length bytes) s.0, s.1)

with_map : (bits : ℕ) (bytes : List ℕ) → (record_with bits bytes).bits ≡ bits
unfolding record_with
with_map bits bytes = refl

pub first_map : (bytes : List ℕ) (r : Record) → first_record bytes ≡ Some r → get_or bytes 2 0 ≡ r.bits
first_map bytes r e = sym (with_map (get_or bytes 2 0) bytes) ∙ ap (λ (x : Record). x.bits) (first_found bytes r e).1

with_size : (bits : ℕ) (bytes : List ℕ) → (record_with bits bytes).size ≡ record_size bits
unfolding record_with
with_size bits bytes = refl

-- it says its length
pub first_says : (bytes : List ℕ) (r : Record) → first_record bytes ≡ Some r → r.size ≡ record_size r.bits
first_says bytes r e =
    sym (ap (λ (x : Record). x.size) (first_found bytes r e).1) ∙ with_size (get_or bytes 2 0) bytes ∙ ap record_size (first_map bytes r e)

-- its bytes are all there
pub first_size : (bytes : List ℕ) (r : Record) → first_record bytes ≡ Some r → record_size r.bits ≤ length bytes
first_size bytes r e = rw (first_map bytes r e) at (first_found bytes r e).0
