-- What is written reads back as the same match. By induction on the patches that are left: reading the records from k on, with the lists absent
-- from k on, gives the match.
use mathlib.Core.Path.{◌≡◌, refl, sym, ap, ◌∙◌, subst}
use mathlib.Core.Logic.{◌≢◌}
use mathlib.Core.Bool.{true}
use mathlib.Core.List.{List, [], ◌∷◌, ◌++◌, append_assoc, append-nil}
use Prim.Native.Nat.{ℕ, zero, suc, ◌+◌, ◌*◌, ◌/◌, ◌%◌, ◌^◌, ◌≤◌, ◌<◌}
use native.Mathlib.Nat.{add-zero, zero-add, add-suc, suc-add}
use native.Mathlib.Decide.{ℕ_discrete}
use native.Mathlib.Omega.{arith}
use borrow.Author.Tests.{ne_eqb, le-leb, lt-ltb, ltb-true}
use lib.ListN.{length, get_or, set, take, drop, replicate, length-append}
use lib.Seq.{take-suc, take_all, set_at, length-take-le, get_or-set_other}
use Rattle.limits.specs.Limits.{none}
use Rattle.slices.proofs.Lists.{zeros}
use Rattle.matching.specs.Match.{Match, match_of}
use Rattle.byte_numbers.specs.Bytes.{bytes_of}
use Rattle.byte_numbers.proofs.ReadBack.{number_back}
use Rattle.byte_numbers.proofs.Words.{bytes_length}
use Rattle.sheet.specs.declared.Record.{Record}
use Rattle.sheet.specs.Format.{row_bit, u_bit, v_bit, cmax_bit, record_bytes, stands, bits_of, record_for, unless_empty, patch_bytes, records_to}
use Rattle.sheet.specs.Format.{sheet_bytes, row_or_none}
use Rattle.sheet.specs.Reading.{records_of, index_fault, repeat_fault, records_fault, store, stored, max_patches, no_marks, order_of, head_fault}
use Rattle.sheet.specs.Reading.{body_fault, sheet_match, Means}
use Rattle.sheet.proofs.Fields.{stands_not, stands_so, stands_bit}
use Rattle.sheet.proofs.Lengths.{bits_small}
use Rattle.sheet.proofs.Records.{Fits, Proper, record_back, records_end}

-- ---- the record that the writer makes
-- a match that can be written
pub record Good (n : ℕ) (m : Match ℕ) : Type 0 where
  pub few : n ≤ 4096
  pub perm : length m.perm ≡ n
  pub u : length m.u ≡ n
  pub v : length m.v ≡ n
  pub cmax : length m.cmax ≡ n
  pub rows : (k : ℕ) → k < n → row_or_none n (get_or m.perm k 0) ≡ true
  pub u_bits : (k : ℕ) → k < n → get_or m.u k 0 < 2 ^ 64
  pub v_bits : (k : ℕ) → k < n → get_or m.v k 0 < 2 ^ 64
  pub cmax_bits : (k : ℕ) → k < n → get_or m.cmax k 0 < 2 ^ 64

pub row_small : (n row : ℕ) → row_or_none n row ≡ true → row ≢ none → row < n
row_small n row e h = ltb-true row n (rw (ne_eqb row none h) at e)

fits_stands : (absent value width bit : ℕ) → bit ≡ stands absent value → (value ≢ absent → value < 256 ^ width) → Fits bit absent width value
fits_stands absent value width bit e h = go (ℕ_discrete value absent)
  where
    go : Dec (value ≡ absent) → Fits bit absent width value
    go (yes s) = subst (λ (x : ℕ). Fits x absent width value) (stands_not absent value s ∙ sym e) s
    go (no s) = subst (λ (x : ℕ). Fits x absent width value) (stands_so absent value s ∙ sym e) (h s)

pub record BitsOf (row u v cmax : ℕ) : Type 0 where
  pub row_bit_lem : row_bit (bits_of row u v cmax) ≡ stands none row
  pub u_bit_lem : u_bit (bits_of row u v cmax) ≡ stands 0 u
  pub v_bit_lem : v_bit (bits_of row u v cmax) ≡ stands 0 v
  pub cmax_bit_lem : cmax_bit (bits_of row u v cmax) ≡ stands 0 cmax

bits_apart : (a b c d : ℕ) → a ≤ 1 → b ≤ 1 → c ≤ 1 → d ≤ 1
    → ((a + 2 * b + 4 * c + 8 * d) % 2 ≡ a) × ((a + 2 * b + 4 * c + 8 * d) / 2 % 2 ≡ b) × ((a + 2 * b + 4 * c + 8 * d) / 4 % 2 ≡ c)
    × ((a + 2 * b + 4 * c + 8 * d) / 8 % 2 ≡ d)
bits_apart a b c d h i j k = (omega arith, omega arith, omega arith, omega arith)

pub bits_are : (row u v cmax : ℕ) → BitsOf row u v cmax
unfolding bits_of
bits_are row u v cmax =
    let s = bits_apart (stands none row) (stands 0 u) (stands 0 v) (stands 0 cmax) (stands_bit none row) (stands_bit 0 u) (stands_bit 0 v)
    (stands_bit 0 cmax) in
    record { row_bit_lem = s.0; u_bit_lem = s.1; v_bit_lem = s.2; cmax_bit_lem = s.3 }

-- the record of a patch
abbrev pub record_at : ℕ → Match ℕ → Record
record_at k m = record_for k (get_or m.perm k 0) (get_or m.u k 0) (get_or m.v k 0) (get_or m.cmax k 0)

abbrev pub patch_at : ℕ → Match ℕ → List ℕ
patch_at k m = patch_bytes k (get_or m.perm k 0) (get_or m.u k 0) (get_or m.v k 0) (get_or m.cmax k 0)

module _ {n : ℕ} {m : Match ℕ} (g : Good n m) (k : ℕ) (h : k < n) where
  pub record_proper : Proper (record_at k m)
  record_proper =
      let b = bits_are (get_or m.perm k 0) (get_or m.u k 0) (get_or m.v k 0) (get_or m.cmax k 0) in
      record {
        patch = omega (arith, g.few);
        row = fits_stands none (get_or m.perm k 0) 2 _ b.row_bit_lem (λ s. let l = row_small n (get_or m.perm k 0) (g.rows k h) s in omega (arith, g.few));
        u = fits_stands 0 (get_or m.u k 0) 8 _ b.u_bit_lem (λ s. g.u_bits k h);
        v = fits_stands 0 (get_or m.v k 0) 8 _ b.v_bit_lem (λ s. g.v_bits k h);
        cmax = fits_stands 0 (get_or m.cmax k 0) 8 _ b.cmax_bit_lem (λ s. g.cmax_bits k h);
        size = refl;
      }

  pub index_fine : index_fault n (record_at k m) ≡ 0
  unfolding index_fault
  index_fine =
      rw (lt-ltb (bits_of (get_or m.perm k 0) (get_or m.u k 0) (get_or m.v k 0) (get_or m.cmax k 0)) 16 (bits_small _ _ _ _), lt-ltb k n h, g.rows k h) refl

-- a patch with nothing to say has no bytes, and each field is what its absence means
pub patch_silent : (k : ℕ) (m : Match ℕ) → (record_at k m).bits ≡ 0 → patch_at k m ≡ []
unfolding patch_bytes
patch_silent k m e = rw e refl

pub patch_said : (k : ℕ) (m : Match ℕ) → (record_at k m).bits ≢ 0 → patch_at k m ≡ record_bytes (record_at k m)
unfolding patch_bytes
patch_said k m h = go (record_at k m).bits h
  where
    go : (bits : ℕ) → bits ≢ 0 → unless_empty bits (record_bytes (record_at k m)) ≡ record_bytes (record_at k m)
    go zero s = absurd (s refl)
    go (suc bits) s = refl

not_standing : (absent value : ℕ) → stands absent value ≡ 0 → value ≡ absent
not_standing absent value e = go (ℕ_discrete value absent)
  where
    go : Dec (value ≡ absent) → value ≡ absent
    go (yes s) = s
    go (no s) = let z : ⊥ = omega (arith, stands_so absent value s) in absurd z

pub record Absent (row u v cmax : ℕ) : Type 0 where
  pub no_row : row ≡ none
  pub no_u : u ≡ 0
  pub no_v : v ≡ 0
  pub no_cmax : cmax ≡ 0

pub all_absent : (row u v cmax : ℕ) → bits_of row u v cmax ≡ 0 → Absent row u v cmax
unfolding bits_of
all_absent row u v cmax e = record {
  no_row = not_standing none row (omega (arith, stands_bit none row));
  no_u = not_standing 0 u (omega (arith, stands_bit 0 u));
  no_v = not_standing 0 v (omega (arith, stands_bit 0 v));
  no_cmax = not_standing 0 cmax (omega (arith, stands_bit 0 cmax));
}

-- ---- the records from a patch on
unfoldable pub records_from : ℕ → ℕ → Match ℕ → List ℕ
records_from zero k m = []
records_from (suc count) k m = patch_at k m ++ records_from count (suc k) m

from_to : (count k : ℕ) (m : Match ℕ) → records_to k m ++ records_from count k m ≡ records_to (k + count) m
unfolding records_from records_to
from_to zero k m = append-nil (records_to k m) ∙ ap (λ (i : ℕ). records_to i m) (sym (add-zero k))
from_to (suc count) k m =
    sym (append_assoc (records_to k m) (patch_at k m) (records_from count (suc k) m))
    ∙ from_to count (suc k) m ∙ ap (λ (i : ℕ). records_to i m) (suc-add k count ∙ sym (add-suc k count))

pub records_all : (n : ℕ) (m : Match ℕ) → records_to n m ≡ records_from n 0 m
unfolding records_to
records_all n m = sym (from_to n 0 m ∙ ap (λ (i : ℕ). records_to i m) (zero-add n))

-- ---- no record is at fault
module _ {n : ℕ} {m : Match ℕ} (g : Good n m) where
  faultless : (count k : ℕ) (marks : List ℕ) → k + count ≡ n → ((j : ℕ) → k ≤ j → get_or marks j 0 ≡ 0) → records_fault n marks
      (records_of (records_from count k m)) ≡ 0
  unfolding records_from records_fault repeat_fault
  faultless zero k marks e fresh = rw (records_end [] refl) refl
  faultless (suc count) k marks e fresh = go (λ l f. faultless count (suc k) l (omega arith) f) (ℕ_discrete (record_at k m).bits 0)
    where
      go : ((l : List ℕ) → ((j : ℕ) → suc k ≤ j → get_or l j 0 ≡ 0) → records_fault n l (records_of (records_from count (suc k) m)) ≡ 0)
          → Dec ((record_at k m).bits ≡ 0) → records_fault n marks (records_of (patch_at k m ++ records_from count (suc k) m)) ≡ 0
      go ih (yes s) = rw (patch_silent k m s) (ih marks (λ j l. fresh j (omega arith)))
      go ih (no s) =
          rw (
            patch_said k m s,
            record_back (record_at k m) (records_from count (suc k) m) (record_proper g k (omega arith)),
            index_fine g k (omega arith),
            fresh k (omega arith),
          )
          (ih (set marks k 1) (λ j l. get_or-set_other marks k j 1 0 (λ q. let z : ⊥ = omega arith in absurd z) ∙ fresh j (omega arith)))

-- ---- a list that is filled up to k
abbrev front : ℕ → ℕ → ℕ → List ℕ → List ℕ
front k count absent l = take k l ++ replicate count absent

front_set : (k count absent : ℕ) (l : List ℕ) → k < length l → set (front k (suc count) absent l) k (get_or l k 0) ≡ front (suc k) count absent l
front_set k count absent l h =
    set_at (take k l) absent (replicate count absent) (get_or l k 0) k (length-take-le k l (omega arith))
    ∙ sym (ap (λ (x : List ℕ). x ++ replicate count absent) (take-suc l k 0 h) ∙ append_assoc (take k l) (get_or l k 0 ∷ []) (replicate count absent))

front_skip : (k count absent : ℕ) (l : List ℕ) → k < length l → get_or l k 0 ≡ absent → front k (suc count) absent l ≡ front (suc k) count absent l
front_skip k count absent l h e =
    sym (ap (λ (x : List ℕ). x ++ replicate count absent) (take-suc l k 0 h) ∙ append_assoc (take k l) (get_or l k 0 ∷ []) (replicate count absent)
    ∙ ap (λ (a : ℕ). take k l ++ (a ∷ replicate count absent)) e)

front_end : (k absent : ℕ) (l : List ℕ) → length l ≤ k → front k 0 absent l ≡ l
front_end k absent l h = append-nil (take k l) ∙ take_all k l h

abbrev fronts : ℕ → ℕ → Match ℕ → Match ℕ
fronts k count m = match_of (front k count none m.perm) (front k count 0 m.u) (front k count 0 m.v) (front k count 0 m.cmax)

same_match : {p p' u u' v v' c c' : List ℕ} → p ≡ p' → u ≡ u' → v ≡ v' → c ≡ c' → match_of p u v c ≡ match_of p' u' v' c'
same_match a b c d = rw (a, b, c, d) refl

module _ {n : ℕ} {m : Match ℕ} (g : Good n m) where
  refilled : (count k : ℕ) → k + count ≡ n → stored (records_of (records_from count k m)) (fronts k count m) ≡ m
  unfolding records_from stored
  refilled zero k e =
      rw (records_end [] refl)
      (same_match (front_end k none m.perm (omega (arith, g.perm))) (front_end k 0 m.u (omega (arith, g.u)))
      (front_end k 0 m.v (omega (arith, g.v))) (front_end k 0 m.cmax (omega (arith, g.cmax))))
  refilled (suc count) k e = go (refilled count (suc k) (omega arith)) (ℕ_discrete (record_at k m).bits 0)
    where
      go : stored (records_of (records_from count (suc k) m)) (fronts (suc k) count m) ≡ m → Dec ((record_at k m).bits ≡ 0)
          → stored (records_of (patch_at k m ++ records_from count (suc k) m)) (fronts k (suc count) m) ≡ m
      go ih (yes s) =
          let a = all_absent (get_or m.perm k 0) (get_or m.u k 0) (get_or m.v k 0) (get_or m.cmax k 0) s in
          let f : fronts k (suc count) m ≡ fronts (suc k) count m =
          same_match (front_skip k count none m.perm (omega (arith, g.perm)) a.no_row)
          (front_skip k count 0 m.u (omega (arith, g.u)) a.no_u) (front_skip k count 0 m.v (omega (arith, g.v)) a.no_v)
          (front_skip k count 0 m.cmax (omega (arith, g.cmax)) a.no_cmax) in
          rw (patch_silent k m s) (ap (stored (records_of (records_from count (suc k) m))) f ∙ ih)
      go ih (no s) =
          let f : store (record_at k m) (fronts k (suc count) m) ≡ fronts (suc k) count m =
          same_match (front_set k count none m.perm (omega (arith, g.perm))) (front_set k count 0 m.u (omega (arith, g.u)))
          (front_set k count 0 m.v (omega (arith, g.v))) (front_set k count 0 m.cmax (omega (arith, g.cmax))) in
          rw (patch_said k m s, record_back (record_at k m) (records_from count (suc k) m) (record_proper g k (omega arith)))
          (ap (stored (records_of (records_from count (suc k) m))) f ∙ ih)

-- ---- a whole file
module _ (n : ℕ) (m : Match ℕ) where
  pub order_back : n ≤ 4096 → order_of (sheet_bytes n m) ≡ n
  unfolding sheet_bytes
  order_back h = number_back 2 n (records_to n m) (omega arith)

  pub body_is : drop 2 (sheet_bytes n m) ≡ records_from n 0 m
  unfolding sheet_bytes bytes_of
  body_is = records_all n m

  two_bytes : 2 ≤ length (sheet_bytes n m)
  unfolding sheet_bytes
  two_bytes = rw (length-append (bytes_of 2 n) (records_to n m)) (omega (arith, bytes_length 2 n))

  pub head_fine : n ≤ 4096 → head_fault (sheet_bytes n m) ≡ 0
  unfolding head_fault
  head_fine h = rw (le-leb 2 (length (sheet_bytes n m)) two_bytes, order_back h, le-leb n max_patches h) refl

pub no_mark : (j : ℕ) → get_or no_marks j 0 ≡ 0
unfolding no_marks
no_mark j = zeros max_patches j

pub reads_back : {n : ℕ} {m : Match ℕ} → Good n m → Means (sheet_bytes n m) n m
unfolding body_fault sheet_match
reads_back {n} {m} g = record {
  taken = rw (head_fine n m g.few, order_back n m g.few, body_is n m) (faultless g n 0 no_marks (omega arith) (λ j l. no_mark j));
  order = order_back n m g.few;
  same = rw (order_back n m g.few, body_is n m) (refilled g n 0 (omega arith));
}
