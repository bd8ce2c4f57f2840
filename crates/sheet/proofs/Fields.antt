-- What the record functions' proofs cite: a number of two bytes, a field by its bit, a cut, and the rows counted from a place on. By the cases
-- of each definition.
use Rattle.std.proofs.Common.{Option, Some, None, unwrap_or}
use mathlib.Core.Path.{◌≡◌, refl, sym, ap, ◌∙◌}
use mathlib.Core.Bool.{Bool, true, false, not, cond}
use mathlib.Core.List.{List}
use Prim.Native.Nat.{ℕ, ◌+◌, ◌*◌, ◌≤◌, ◌<◌}
use native.Mathlib.Nat.{add-zero, mul-zero, mul-one}
use native.Mathlib.Numerals.{add-one, towards_suc}
use native.Mathlib.Decide.{ℕ_discrete}
use native.Mathlib.Omega.{arith}
use borrow.Author.Tests.{eq-eqb, ne_eqb, le-leb, lt-leb, leb-true, leb-false}
use lib.Dec.{leb, eqb}
use mir.Val.{bool_byte}
use lib.ListN.{length, get_or, drop, drop_of_length-le}
use lib.Seq.{drop-cons}
use Rattle.limits.specs.Limits.{none}
use Rattle.byte_numbers.specs.Bytes.{number_at}
use Rattle.sheet.specs.Format.{row_bit, u_bit, v_bit, cmax_bit, u_at, v_at, cmax_at, record_size, field_at}
use Rattle.sheet.specs.Format.{record_with}
use Rattle.sheet.specs.inner.Steps.{taken}
use Rattle.sheet.specs.Format.{first_record, stands, rows_present}

pub two_is : (l : List ℕ) (at : ℕ) → get_or l at 0 + 256 * get_or l (at + 1) 0 ≡ number_at 2 l at
unfolding number_at
two_is l at = simp towards_suc

-- ---- the record at the front
pub first_cut : (bytes : List ℕ) → length bytes < record_size (get_or bytes 2 0) → None ≡ first_record bytes
unfolding first_record
first_cut bytes h = rw (lt-leb (record_size (get_or bytes 2 0)) (length bytes) h) refl

pub first-is : (bytes : List ℕ) → record_size (get_or bytes 2 0) ≤ length bytes → Some (record_with (get_or bytes 2 0) bytes) ≡ first_record bytes
unfolding first_record
first-is bytes h = rw (le-leb (record_size (get_or bytes 2 0)) (length bytes) h) refl

-- its fields taken one after the other make it
module _ (bytes : List ℕ) where
  abbrev map : ℕ
  map = get_or bytes 2 0

  pub first_made : {patch row u v cmax size : ℕ} → patch ≡ number_at 2 bytes 0 → row ≡ field_at (row_bit map) none 2 bytes 3
      → u ≡ field_at (u_bit map) 0 8 bytes (u_at map) → v ≡ field_at (v_bit map) 0 8 bytes (v_at map)
      → cmax ≡ field_at (cmax_bit map) 0 8 bytes (cmax_at map) → size ≡ record_size map → record_size map ≤ length bytes
      → Some (record { patch = patch; bits = map; row = row; u = u; v = v; cmax = cmax; size = size }) ≡ first_record bytes
  unfolding record_with
  first_made a b c d e f h = rw (a, b, c, d, e, f) (first-is bytes h)

-- ---- a field taken
-- its value, and the place behind it, which is not behind the bytes
pub record Taken (bit absent width : ℕ) (bytes : List ℕ) (at found next : ℕ) : Type 0 where
  pub value : found ≡ field_at bit absent width bytes at
  pub place : next ≡ at + width * bit
  pub within : at + width * bit ≤ length bytes

module _ (absent width bit : ℕ) (bytes : List ℕ) (at : ℕ) where
  pub taken_absent : bit ≡ 0 → at ≤ length bytes → Some (absent, at) ≡ taken absent width bit bytes at
  unfolding taken field_at
  taken_absent e h = rw (e, mul-zero width, add-zero at, le-leb at (length bytes) h) refl

  pub taken_short : bit ≡ 1 → length bytes < at + width → None ≡ taken absent width bit bytes at
  unfolding taken field_at
  taken_short e h = rw (e, mul-one width, lt-leb (at + width) (length bytes) h) refl

  pub taken_there : {value : ℕ} → bit ≡ 1 → at + width ≤ length bytes → value ≡ number_at width bytes at → Some (value, at + width) ≡ taken absent width bit bytes at
  unfolding taken field_at
  taken_there e h f = rw (e, mul-one width, le-leb (at + width) (length bytes) h, f) refl

told : (t : Bool) (a p value next : ℕ) → cond {A = Option (ℕ × ℕ)} t (Some (a, p)) None ≡ Some (value, next) → (t ≡ true) × ((value ≡ a) × (next ≡ p))
told true a p value next e =
    let both : (a, p) ≡ (value, next) = ap (λ (o : Option (ℕ × ℕ)). unwrap_or o (0, 0)) e in
    (refl, (sym (ap (λ (x : ℕ × ℕ). x.0) both), sym (ap (λ (x : ℕ × ℕ). x.1) both)))
told false a p value next e = let z : ◌≡◌ {A = ℕ} 0 1 = cc in absurd (let q : ⊥ = omega arith in q)

untold : (t : Bool) (a p : ℕ) → cond {A = Option (ℕ × ℕ)} t (Some (a, p)) None ≡ None → t ≡ false
untold true a p e = let z : ◌≡◌ {A = ℕ} 0 1 = cc in absurd (let q : ⊥ = omega arith in q)
untold false a p e = refl

module _ (absent width bit : ℕ) (bytes : List ℕ) {at place : ℕ} {x : Option (ℕ × ℕ)} (e : x ≡ taken absent width bit bytes at) (p : at ≡ place) where
  at_place : x ≡ cond (leb (place + width * bit) (length bytes)) (Some (field_at bit absent width bytes place, place + width * bit)) None
  unfolding taken
  at_place = e ∙ ap (taken absent width bit bytes) p

  pub field_taken : {value next : ℕ} → x ≡ Some (value, next) → Taken bit absent width bytes place value next
  field_taken {value} {next} f =
      let s = told (leb (place + width * bit) (length bytes)) (field_at bit absent width bytes place) (place + width * bit) value next (sym at_place ∙ f) in
      record { value = s.1.0; place = s.1.1; within = leb-true (place + width * bit) (length bytes) s.0 }

  pub field_cut : x ≡ None → length bytes < place + width * bit
  field_cut f = leb-false (place + width * bit) (length bytes)
      (untold (leb (place + width * bit) (length bytes)) (field_at bit absent width bytes place) (place + width * bit) (sym at_place ∙ f))

-- ---- bits of values
pub stands_not : (absent value : ℕ) → value ≡ absent → 0 ≡ stands absent value
stands_not absent value e = rw (eq-eqb value absent e) refl

pub stands_so : (absent value : ℕ) → (value ≡ absent → ⊥) → 1 ≡ stands absent value
stands_so absent value h = rw (ne_eqb value absent h) refl

-- the code's bit
pub byte_stands : (absent value : ℕ) → bool_byte (not (eqb value absent)) ≡ stands absent value
byte_stands absent value = go (eqb value absent)
  where
    go : (t : Bool) → bool_byte (not t) ≡ cond t 0 1
    go true = refl
    go false = refl

pub stands_bit : (absent value : ℕ) → stands absent value ≤ 1
stands_bit absent value = go (ℕ_discrete value absent)
  where
    go : Dec (value ≡ absent) → stands absent value ≤ 1
    go (yes e) = rw (← stands_not absent value e) (omega arith)
    go (no e) = rw (← stands_so absent value e) (omega arith)

-- ---- rows counted
pub rows_next : (perm : List ℕ) (k : ℕ) → k < length perm → rows_present (drop k perm) ≡ stands none (get_or perm k 0) + rows_present (drop (k + 1) perm)
unfolding rows_present
rows_next perm k h = rw (add-one k, drop-cons perm k 0 h) refl

pub rows_end : (perm : List ℕ) (k : ℕ) → length perm ≤ k → rows_present (drop k perm) ≡ 0
unfolding rows_present
rows_end perm k h = rw (drop_of_length-le perm {i = k} h) refl
