-- What the writer's functions cite: a field by its bit, a record that is not empty, one more patch, and the tests of the call. By the cases of each
-- definition.
use mathlib.Core.Path.{◌≡◌, refl, sym}
use mathlib.Core.Bool.{Bool, true, false, ◌&&◌}
use mathlib.Core.List.{List, [], ◌++◌}
use Prim.Native.Nat.{ℕ, zero, suc, ◌+◌, ◌/◌, ◌%◌, ◌≤◌, ◌<◌}
use native.Mathlib.Nat.{add-zero}
use native.Mathlib.Numerals.{add-one, towards_suc}
use borrow.Author.Tests.{eqb-true}
use lib.Dec.{eqb}
use lib.ListN.{length, get_or, set, drop, drop_of_length-le}
use lib.Seq.{sets, drop-cons}
use Rattle.slices.proofs.Bools.{both}
use Rattle.matching.specs.Match.{Match}
use Rattle.byte_numbers.specs.Bytes.{bytes_of}
use Rattle.text_report.specs.inner.Steps.{Wrote}
use Rattle.sheet.specs.Format.{part, bits_of, record_bytes, record_for, unless_empty, patch_bytes, records_to, row_or_none, rows_fit}
use Rattle.sheet_writer.specs.Call.{room_for, lengths}

pub two_stores : (l : List ℕ) (at v : ℕ) → set (set l at (v % 256)) (at + 1) (v / 256 % 256) ≡ sets l at (bytes_of 2 v)
unfolding bytes_of
two_stores l at v = simp towards_suc

pub nothing : (out : List ℕ) (at : ℕ) → Wrote out at [] out at
nothing out at = record { bytes = refl; place = sym (add-zero at) }

not_empty : (bits : ℕ) (bytes : List ℕ) → (bits ≡ 0 → ⊥) → bytes ≡ unless_empty bits bytes
not_empty zero bytes h = absurd (h refl)
not_empty (suc bits) bytes h = refl

module _ {out : List ℕ} {at : ℕ} where
  pub part_none : (bit width value : ℕ) → bit ≡ 0 → Wrote out at (part bit width value) out at
  unfolding part
  part_none bit width value e = rw e (nothing out at)

  pub part_there : {left : List ℕ} {next : ℕ} (bit width value : ℕ) → (bit ≡ 0 → ⊥) → Wrote out at (bytes_of width value) left next
      → Wrote out at (part bit width value) left next
  unfolding part
  part_there zero width value h w = absurd (h refl)
  part_there (suc bit) width value h w = w

  pub patch_none : (patch row u v cmax : ℕ) → bits_of row u v cmax ≡ 0 → Wrote out at (patch_bytes patch row u v cmax) out at
  unfolding patch_bytes
  patch_none patch row u v cmax e = rw e (nothing out at)

  pub patch_there : {left : List ℕ} {next : ℕ} (patch row u v cmax : ℕ) → (bits_of row u v cmax ≡ 0 → ⊥)
      → Wrote out at (record_bytes (record_for patch row u v cmax)) left next
      → Wrote out at (patch_bytes patch row u v cmax) left next
  unfolding patch_bytes
  patch_there patch row u v cmax h w = rw (← not_empty (bits_of row u v cmax) (record_bytes (record_for patch row u v cmax)) h) w

-- ---- one patch more
pub records_more : (k : ℕ) (m : Match ℕ) → records_to k m ++ patch_bytes k (get_or m.perm k 0) (get_or m.u k 0) (get_or m.v k 0)
    (get_or m.cmax k 0) ≡ records_to (k + 1) m
unfolding records_to
records_more k m = rw (add-one k) refl

pub records_none : (m : Match ℕ) → [] ≡ records_to 0 m
unfolding records_to
records_none m = refl

-- ---- the tests of the call
pub fit_next : (n : ℕ) (perm : List ℕ) (k : ℕ) → k < length perm → rows_fit n (drop k perm) ≡ row_or_none n (get_or perm k 0) && rows_fit n (drop (k + 1) perm)
unfolding rows_fit
fit_next n perm k h = rw (add-one k, drop-cons perm k 0 h) refl

pub fit_end : (n : ℕ) (perm : List ℕ) (k : ℕ) → length perm ≤ k → rows_fit n (drop k perm) ≡ true
unfolding rows_fit
fit_end n perm k h = rw (drop_of_length-le perm {i = k} h) refl

pub and_assoc : (a b c : Bool) → (a && b) && c ≡ a && (b && c)
and_assoc true b c = refl
and_assoc false true true = refl
and_assoc false true false = refl
and_assoc false false true = refl
and_assoc false false false = refl

pub and-true : (a : Bool) → a && true ≡ a
and-true true = refl
and-true false = refl

-- every slice has its length
pub record Lengths (n : ℕ) (m : Match ℕ) (sheet : List ℕ) : Type 0 where
  pub perm : length m.perm ≡ n
  pub u : length m.u ≡ n
  pub v : length m.v ≡ n
  pub cmax : length m.cmax ≡ n
  pub room : length sheet ≡ room_for n

pub lengths_are : (n : ℕ) (m : Match ℕ) (sheet : List ℕ) → lengths n m sheet ≡ true → Lengths n m sheet
unfolding lengths
lengths_are n m sheet e =
    let a = both (eqb (length m.perm) n) _ e in
    let b = both (eqb (length m.u) n) _ a.1 in
    let c = both (eqb (length m.v) n) _ b.1 in
    let d = both (eqb (length m.cmax) n) _ c.1 in
    record {
      perm = eqb-true _ _ a.0;
      u = eqb-true _ _ b.0;
      v = eqb-true _ _ c.0;
      cmax = eqb-true _ _ d.0;
      room = eqb-true _ _ d.1;
    }
