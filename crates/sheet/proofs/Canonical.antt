-- Canonical files: the other reader takes them, the writer makes them, and writing what was read gives the file again. By induction on the records,
-- with the patches below `next` done.
use Rattle.std.proofs.Common.{Option, Some, None}
use mathlib.Core.Path.{◌≡◌, refl, sym, ap, ap₂, ◌∙◌}
use mathlib.Core.Logic.{◌≢◌}
use mathlib.Core.Bool.{true}
use mathlib.Core.List.{List, [], ◌∷◌, ◌++◌, append_assoc}
use Prim.Native.Nat.{ℕ, zero, suc, ◌+◌, ◌-◌, ◌*◌, ◌/◌, ◌%◌, ◌≤◌, ◌<◌}
use native.Mathlib.Nat.{add-zero, zero-add, add-suc, suc-add, mul-zero, mul-one, sub-zero, not-suc-le-zero}
use native.Mathlib.Decide.{ℕ_discrete}
use native.Mathlib.Omega.{arith}
use borrow.Author.Tests.{eq-eqb, le-leb, lt-ltb, ltb-true, leb-true, eqb-true}
use lib.Dec.{ltb, leb}
use lib.ListN.{length, get_or, set, take, drop, length-set, length-drop, length-replicate, get_or-replicate, take-append-drop}
use lib.Seq.{get_or-set_same, get_or-set_other, get_or-drop, take-add, take-suc}
use Rattle.limits.specs.Limits.{none}
use Rattle.slices.proofs.Bools.{both}
use Rattle.refusal.specs.Refusal.{sheet_cut, sheet_index, patch_order, needless_field}
use Rattle.sparse.proofs.First.{or-none, or-zero, unless_holds}
use Rattle.matching.specs.Match.{Match}
use Rattle.byte_numbers.specs.Bytes.{bytes_of, number_at}
use Rattle.sheet.specs.declared.Record.{Record}
use Rattle.sheet.specs.Format.{row_bit, u_bit, v_bit, cmax_bit, u_at, v_at, cmax_at, record_size, field_at, record_with, first_record, part, record_bytes}
use Rattle.sheet.specs.Format.{bits_of, sheet_bytes, row_or_none}
use Rattle.sheet.specs.Reading.{records_of, index_fault, repeat_fault, records_fault, blank, store, stored, no_marks, order_of, head_fault, body_fault}
use Rattle.sheet.specs.Reading.{sheet_fault, sheet_match}
use Rattle.sheet.specs.Canonical.{needless_fault, rising_fault, canonical_fault, canonical_body, Canonical}
use Rattle.sheet.proofs.Lengths.{size_least}
use Rattle.sheet.proofs.Records.{records_is, records_cut, records_end, record_back, first_found, first_map, first_says, number_drop}
use Rattle.sheet.proofs.RoundTrip.{Good, record_at, patch_at, record_proper, index_fine, patch_silent, patch_said, records_from, records_all}
use Rattle.sheet.proofs.RoundTrip.{order_back, body_is, head_fine, no_mark}

-- ---- a record that passes
pub record Passes (n next : ℕ) (r : Record) : Type 0 where
  pub known : r.bits < 16
  pub below : r.patch < n
  pub row : row_or_none n r.row ≡ true
  pub some : 0 < r.bits
  pub made : r.bits ≡ bits_of r.row r.u r.v r.cmax
  pub rises : next ≤ r.patch

not_forty : (x : ℕ) → suc x ≡ 0 → ⊥
not_forty x e = omega arith

module _ (n next : ℕ) (r : Record) (rest : List (Option Record)) where
  pub step : canonical_fault n next (Some r ∷ rest) ≡ 0 → Passes n next r × (canonical_fault n (suc r.patch) rest ≡ 0)
  unfolding canonical_fault index_fault needless_fault rising_fault
  step e =
      let a = or-zero (index_fault n r) _ e in
      let b = or-zero (needless_fault r) _ a.1 in
      let c = or-zero (rising_fault next r) _ b.1 in
      let i = both (ltb r.bits 16) _ (unless_holds _ sheet_index (not_forty 40) a.0) in
      let j = both (ltb r.patch n) _ i.1 in
      let k = both (ltb 0 r.bits) _ (unless_holds _ needless_field (not_forty 44) b.0) in (
        record {
          known = ltb-true _ _ i.0;
          below = ltb-true _ _ j.0;
          row = j.1;
          some = ltb-true _ _ k.0;
          made = eqb-true _ _ k.1;
          rises = leb-true _ _ (unless_holds _ patch_order (not_forty 43) c.0);
        },
        c.1,
      )

index_none : (n : ℕ) (r : Record) {next : ℕ} → Passes n next r → index_fault n r ≡ 0
unfolding index_fault
index_none n r p = rw (lt-ltb r.bits 16 p.known, lt-ltb r.patch n p.below, p.row) refl

-- ---- what is canonical, the reader of any order takes
opened : (n next : ℕ) (marks : List ℕ) (found : List (Option Record)) → ((j : ℕ) → next ≤ j → get_or marks j 0 ≡ 0) → canonical_fault n next found ≡ 0
    → records_fault n marks found ≡ 0
unfolding canonical_fault records_fault repeat_fault
opened n next marks [] fresh e = refl
opened n next marks (None ∷ rest) fresh e = e
opened n next marks (Some r ∷ rest) fresh e =
    let s = step n next r rest e in
    rw (index_none n r s.0, fresh r.patch s.0.rises)
    (opened n (suc r.patch) (set marks r.patch 1) rest
    (λ j l. get_or-set_other marks r.patch j 1 0 (λ q. let z : ⊥ = omega arith in absurd z) ∙ fresh j (omega (arith, s.0.rises))) s.1)

pub canonical_body_lem : (sheet : List ℕ) → canonical_body sheet ≡ 0 → body_fault sheet ≡ 0
unfolding canonical_body body_fault
canonical_body_lem sheet e = opened (order_of sheet) 0 no_marks (records_of (drop 2 sheet)) (λ j l. no_mark j) e

-- ---- what is written is canonical
needless_none : (k : ℕ) (m : Match ℕ) → (record_at k m).bits ≢ 0 → needless_fault (record_at k m) ≡ 0
unfolding needless_fault
needless_none k m s = rw (lt-ltb 0 (record_at k m).bits (omega arith), eq-eqb (record_at k m).bits (record_at k m).bits refl) refl

rising_none : (next : ℕ) (r : Record) → next ≤ r.patch → rising_fault next r ≡ 0
unfolding rising_fault
rising_none next r h = rw (le-leb next r.patch h) refl

module _ {n : ℕ} {m : Match ℕ} (g : Good n m) where
  made_canonical : (count k next : ℕ) → k + count ≡ n → next ≤ k → canonical_fault n next (records_of (records_from count k m)) ≡ 0
  unfolding records_from canonical_fault
  made_canonical zero k next e h = rw (records_end [] refl) refl
  made_canonical (suc count) k next e h = go (λ x l. made_canonical count (suc k) x (omega arith) l) (ℕ_discrete (record_at k m).bits 0)
    where
      go : ((x : ℕ) → x ≤ suc k → canonical_fault n x (records_of (records_from count (suc k) m)) ≡ 0)
          → Dec ((record_at k m).bits ≡ 0) → canonical_fault n next (records_of (patch_at k m ++ records_from count (suc k) m)) ≡ 0
      go ih (yes s) = rw (patch_silent k m s) (ih next (omega arith))
      go ih (no s) =
          rw (
            patch_said k m s,
            record_back (record_at k m) (records_from count (suc k) m) (record_proper g k (omega arith)),
            index_fine g k (omega arith),
            needless_none k m s,
            rising_none next (record_at k m) h,
          )
          (ih (suc k) (omega arith))

-- ---- a record's bytes are those that it was read from
abbrev pub Bytes : List ℕ → Type 0
Bytes l = (i : ℕ) → get_or l i 0 < 256

pub bytes_behind : (l : List ℕ) (k : ℕ) → Bytes l → Bytes (drop k l)
bytes_behind l k b i = rw (get_or-drop k l i 0) (b (k + i))

number_bytes : (w : ℕ) (l : List ℕ) → w ≤ length l → Bytes l → bytes_of w (number_at w l 0) ≡ take w l
unfolding bytes_of number_at
number_bytes zero l h b = refl
number_bytes (suc w) [] h b = absurd (not-suc-le-zero h)
number_bytes (suc w) (x ∷ l) h b =
    let s : x < 256 = b 0 in
    let n : number_at w (x ∷ l) 1 ≡ number_at w l 0 = number_drop w (x ∷ l) 1 0 in
    let r : (x + 256 * number_at w l 0) % 256 ≡ x = omega arith in
    let q : (x + 256 * number_at w l 0) / 256 ≡ number_at w l 0 = omega arith in
    rw (n, r, q) (ap (λ (t : List ℕ). x ∷ t) (number_bytes w l (omega arith) (λ i. b (suc i))))

part_bytes : (bit absent w : ℕ) (l : List ℕ) (at : ℕ) → bit ≤ 1 → at + w * bit ≤ length l → Bytes l → part bit w (field_at bit absent w l at) ≡ take
    (w * bit) (drop at l)
unfolding part field_at
part_bytes zero absent w l at h k b = rw (mul-zero w) refl
part_bytes (suc zero) absent w l at h k b =
    let e : number_at w l at ≡ number_at w (drop at l) 0 = ap (number_at w l) (sym (add-zero at)) ∙ number_drop w l at 0 in
    rw (mul-one w, e)
    (number_bytes w (drop at l) (rw (length-drop at l) (omega (arith, mul-one w))) (bytes_behind l at b))
part_bytes (suc (suc bit)) absent w l at h k b = let z : ⊥ = omega arith in absurd z

regroup : (a b c d e f : List ℕ) → ((((a ++ b) ++ c) ++ d) ++ e) ++ f ≡ a ++ (b ++ (c ++ (d ++ (e ++ f))))
regroup a b c d e f = simp append_assoc

module _ (l : List ℕ) (b : ℕ) (m : b ≡ get_or l 2 0) (h : record_size b ≤ length l) (k : Bytes l) where
  one_more : take 3 l ≡ take 2 l ++ (b ∷ [])
  one_more = rw m (take-suc l 2 0 (omega arith))

  pub with_bytes : record_bytes (record_with b l) ≡ take (record_size b) l
  unfolding record_bytes record_with
  with_bytes =
      rw (
        number_bytes 2 l (omega arith) k,
        part_bytes (row_bit b) none 2 l 3 (omega arith) (omega arith) k,
        part_bytes (u_bit b) 0 8 l (u_at b) (omega arith) (omega arith) k,
        part_bytes (v_bit b) 0 8 l (v_at b) (omega arith) (omega arith) k,
        part_bytes (cmax_bit b) 0 8 l (cmax_at b) (omega arith) (omega arith) k,
      )
      (sym (
      take-add (cmax_at b) (8 * cmax_bit b) l
      ∙ ap (λ (x : List ℕ). x ++ take (8 * cmax_bit b) (drop (cmax_at b) l)) (
      take-add (v_at b) (8 * v_bit b) l
      ∙ ap (λ (x : List ℕ). x ++ take (8 * v_bit b) (drop (v_at b) l)) (
      take-add (u_at b) (8 * u_bit b) l
      ∙ ap (λ (x : List ℕ). x ++ take (8 * u_bit b) (drop (u_at b) l)) (
      take-add 3 (2 * row_bit b) l ∙ ap (λ (x : List ℕ). x ++ take (2 * row_bit b) (drop 3 l)) one_more
      )
      )
      )
      ∙ regroup (take 2 l) (b ∷ []) (take (2 * row_bit b) (drop 3 l)) (take (8 * u_bit b) (drop (u_at b) l)) (take (8 * v_bit b) (drop (v_at b) l))
      (take (8 * cmax_bit b) (drop (cmax_at b) l))
      ))

pub record_whole : (l : List ℕ) (r : Record) → first_record l ≡ Some r → Bytes l → record_bytes r ++ drop (record_size r.bits) l ≡ l
record_whole l r e k =
    let f = first_found l r e in
    let b = first_map l r e in
    ap₂ (λ (x : Record) (c : ℕ). record_bytes x ++ drop (record_size c) l) (sym f.1) (sym b)
    ∙ ap (λ (x : List ℕ). x ++ drop (record_size (get_or l 2 0)) l) (with_bytes l (get_or l 2 0) refl f.0 k)
    ∙ take-append-drop (record_size (get_or l 2 0)) l

-- ---- what later records leave
kept_below : (n next : ℕ) (found : List (Option Record)) (l : Match ℕ) (j : ℕ) → canonical_fault n next found ≡ 0 → j < next → record_at j (stored found l) ≡ record_at j l
unfolding stored canonical_fault
kept_below n next [] l j e h = refl
kept_below n next (None ∷ rest) l j e h = refl
kept_below n next (Some r ∷ rest) l j e h =
    let s = step n next r rest e in
    let d : j ≢ r.patch = (λ q. let z : ⊥ = omega (arith, s.0.rises) in absurd z) in
    kept_below n (suc r.patch) rest (store r l) j s.1 (omega (arith, s.0.rises))
    ∙ rw (
      get_or-set_other l.perm r.patch j r.row 0 d,
      get_or-set_other l.u r.patch j r.u 0 d,
      get_or-set_other l.v r.patch j
          r.v 0 d,
      get_or-set_other l.cmax r.patch j r.cmax 0 d,
    ) refl

pub record Long (n : ℕ) (l : Match ℕ) : Type 0 where
  pub perm : length l.perm ≡ n
  pub u : length l.u ≡ n
  pub v : length l.v ≡ n
  pub cmax : length l.cmax ≡ n

pub store_long : {n : ℕ} {l : Match ℕ} (r : Record) → Long n l → Long n (store r l)
store_long {n} {l} r g = record {
  perm = length-set l.perm r.patch r.row ∙ g.perm;
  u = length-set l.u r.patch r.u ∙ g.u;
  v = length-set l.v r.patch r.v ∙ g.v;
  cmax = length-set l.cmax r.patch r.cmax ∙ g.cmax;
}

store_at : (n next : ℕ) (l : Match ℕ) (r : Record) → Long n l → Passes n next r → r.size ≡ record_size r.bits → record_at r.patch (store r l) ≡ r
store_at n next l r g p z =
    rw (
      get_or-set_same l.perm r.patch r.row 0 (omega (arith, g.perm, p.below)),
      get_or-set_same l.u r.patch r.u 0
          (omega (arith, g.u, p.below)),
      get_or-set_same l.v r.patch r.v 0 (omega (arith, g.v, p.below)),
      get_or-set_same l.cmax r.patch
          r.cmax 0 (omega (arith, g.cmax, p.below)),
      ← p.made,
      ← z,
    ) refl

-- patches from `next` up to n have nothing to say
abbrev Silent : ℕ → ℕ → Match ℕ → Type 0
Silent n next l = (k : ℕ) → next ≤ k → k < n → (record_at k l).bits ≡ 0

silent_none : (n : ℕ) (count k : ℕ) (m : Match ℕ) → k + count ≤ n → Silent n k m → records_from count k m ≡ []
unfolding records_from
silent_none n zero k m h s = refl
silent_none n (suc count) k m h s =
    rw (patch_silent k m (s k (omega arith) (omega arith))) (silent_none n count (suc k) m (omega arith) (λ j a b. s j (omega arith) b))

from_append : (a b k : ℕ) (m : Match ℕ) → records_from (a + b) k m ≡ records_from a k m ++ records_from b (k + a) m
unfolding records_from
from_append zero b k m = rw (zero-add b, add-zero k) refl
from_append (suc a) b k m =
    rw (suc-add a b) (ap (λ (x : List ℕ). patch_at k m ++ x)
    (from_append a b (suc k) m ∙ ap (λ (i : ℕ). records_from a (suc k) m ++ records_from b i m) (suc-add k a ∙ sym (add-suc k a)))
    ∙ sym (append_assoc (patch_at k m) (records_from a (suc k) m) (records_from b (k + suc a) m)))

store_other : (l : Match ℕ) (r : Record) (k : ℕ) → k ≢ r.patch → record_at k (store r l) ≡ record_at k l
store_other l r k d =
    rw (
      get_or-set_other l.perm r.patch k r.row 0 d,
      get_or-set_other l.u r.patch k r.u 0 d,
      get_or-set_other l.v r.patch k
          r.v 0 d,
      get_or-set_other l.cmax r.patch k r.cmax 0 d,
    ) refl

-- ---- writing what was read gives the bytes again
-- a record in front of bytes that are written again
module _ (n next : ℕ) (l : Match ℕ) (r : Record) (found : List (Option Record)) (rest : List ℕ) (p : Passes n next r) (z : r.size ≡ record_size r.bits)
    (g : Long n l) (s : Silent n next l)
    (e : canonical_fault n (suc r.patch) found ≡ 0) where
  abbrev at : ℕ
  at = r.patch

  abbrev m : Match ℕ
  m = stored found (store r l)

  there : record_at at m ≡ r
  there = kept_below n (suc at) found (store r l) at e (omega arith) ∙ store_at n next l r g p z

  before_it : (k : ℕ) → next ≤ k → k < at → (record_at k m).bits ≡ 0
  before_it k a b =
      ap (λ (x : Record). x.bits) (kept_below n (suc at) found (store r l) k e (omega arith) ∙ store_other l r k (λ q. let z : ⊥ = omega arith in absurd z))
      ∙ s k a (omega (arith, p.below))

  pub behind_it : Silent n (suc at) (store r l)
  behind_it k a b = ap (λ (x : Record). x.bits) (store_other l r k (λ q. let z : ⊥ = omega arith in absurd z)) ∙ s k (omega (arith, p.rises)) b

  pub one_more_record : records_from (n - suc at) (suc at) m ≡ rest → records_from (n - next) next m ≡ record_bytes r ++ rest
  unfolding records_from
  one_more_record ih =
      let gap : n - next ≡ (at - next) + suc (n - suc at) = omega (arith, p.rises, p.below) in
      let here : next + (at - next) ≡ at = omega (arith, p.rises) in
      let none_before : records_from (at - next) next m ≡ [] = silent_none at (at - next) next m (omega (arith, p.rises)) before_it in
      let bits : (record_at at m).bits ≢ 0 =
      (λ q. let t : r.bits ≡ 0 = sym (ap (λ (x : Record). x.bits) there) ∙ q in let z : ⊥ = omega (arith, p.some) in absurd z) in
      ap (λ (c : ℕ). records_from c next m) gap
      ∙ from_append (at - next) (suc (n - suc at)) next m
      ∙ ap₂ (λ (x : List ℕ) (k : ℕ). x ++ records_from (suc (n - suc at)) k m) none_before here
      ∙ ap₂ (λ (x y : List ℕ). x ++ y) (patch_said at m bits ∙ ap record_bytes there) ih

cut_fault : (n next : ℕ) → canonical_fault n next (None ∷ []) ≡ sheet_cut
unfolding canonical_fault
cut_fault n next = refl

again : (n fuel next : ℕ) (bytes : List ℕ) (l : Match ℕ) → length bytes ≤ fuel → Bytes bytes → canonical_fault n next (records_of bytes) ≡ 0 → next ≤ n
    → Long n l → Silent n next l
    → records_from (n - next) next (stored (records_of bytes) l) ≡ bytes
unfolding stored
again n zero next [] l h b e o g s = rw (records_end [] refl) (silent_none n (n - next) next l (omega arith) s)
again n zero next (byte ∷ bytes) l h b e o g s = absurd (not-suc-le-zero h)
again n (suc fuel) next [] l h b e o g s = rw (records_end [] refl) (silent_none n (n - next) next l (omega arith) s)
again n (suc fuel) next (byte ∷ bytes) l h b e o g s = go (λ k rest x a c d f q t. again n fuel k rest x a c d f q t) (first_record (byte ∷ bytes)) refl
  where
    go : ((k : ℕ) (rest : List ℕ) (x : Match ℕ) → length rest ≤ fuel → Bytes rest → canonical_fault n k (records_of rest) ≡ 0 → k ≤ n → Long n x
        → Silent n k x → records_from (n - k) k (stored (records_of rest) x) ≡ rest)
        → (found : Option Record) → first_record (byte ∷ bytes) ≡ found → records_from (n - next) next (stored (records_of (byte ∷ bytes)) l) ≡ byte ∷ bytes
    go ih None f = let z : sheet_cut ≡ 0 = sym (cut_fault n next) ∙ ap (canonical_fault n next) (sym (records_cut (byte ∷ bytes) (omega arith) f)) ∙ e in
        let q : ⊥ = omega arith in absurd q
    go ih (Some r) f =
        let rest = drop (record_size r.bits) (byte ∷ bytes) in
        let is : records_of (byte ∷ bytes) ≡ Some r ∷ records_of rest = records_is (byte ∷ bytes) r (omega arith) f in
        let says = first_says (byte ∷ bytes) r f in
        let t = step n next r (records_of rest) (sym (ap (canonical_fault n next) is) ∙ e) in
        let short : length rest ≤ fuel = rw (length-drop (record_size r.bits) (byte ∷ bytes)) (omega (arith, size_least r.bits)) in
        let w = ih (suc r.patch) rest (store r l) short (bytes_behind (byte ∷ bytes) (record_size r.bits) b) t.1 (omega (arith, t.0.below))
        (store_long r g) (behind_it n next l r (records_of rest) rest t.0 says g s t.1) in
        ap (λ (x : List (Option Record)). records_from (n - next) next (stored x l)) is
        ∙ one_more_record n next l r (records_of rest) rest t.0 says g s t.1 w
        ∙ record_whole (byte ∷ bytes) r f b

blank_silent : (n : ℕ) → Silent n 0 (blank n)
unfolding bits_of
blank_silent n k a b = rw (get_or-replicate {A = ℕ} n k none 0 b, get_or-replicate {A = ℕ} n k 0 0 b) refl

pub blank_long : (n : ℕ) → Long n (blank n)
blank_long n = record { perm = length-replicate n none; u = length-replicate n 0; v = length-replicate n 0; cmax = length-replicate n 0 }

two_there : (sheet : List ℕ) → head_fault sheet ≡ 0 → 2 ≤ length sheet
unfolding head_fault
two_there sheet e = leb-true 2 (length sheet) (both (leb 2 (length sheet)) _ (unless_holds _ 40 (not_forty 39) e)).0

pub written_again : (sheet : List ℕ) → Canonical sheet → ((i : ℕ) → get_or sheet i 0 < 256) → sheet_bytes (order_of sheet) (sheet_match sheet) ≡ sheet
unfolding sheet_bytes sheet_match canonical_body
written_again sheet c b =
    let n = order_of sheet in
    let m = stored (records_of (drop 2 sheet)) (blank n) in
    let a : records_from (n - 0) 0 m ≡ drop 2 sheet = again n (length (drop 2 sheet)) 0 (drop 2 sheet) (blank n) (omega arith) (bytes_behind sheet 2 b)
    c.body (omega arith) (blank_long n) (blank_silent n) in
    ap₂ (λ (x y : List ℕ). x ++ y) (number_bytes 2 sheet (two_there sheet c.head) b)
    (records_all n m ∙ ap (λ (k : ℕ). records_from k 0 m) (sym (sub-zero n)) ∙ a)
    ∙ take-append-drop 2 sheet

pub written_canonical : {n : ℕ} {m : Match ℕ} → Good n m → Canonical (sheet_bytes n m)
unfolding canonical_body
written_canonical {n} {m} g = record {
  head = head_fine n m g.few;
  body = rw (order_back n m g.few, body_is n m) (made_canonical g n 0 0 (omega arith) (omega arith));
}

pub canonical_taken : (sheet : List ℕ) → Canonical sheet → sheet_fault sheet ≡ 0
canonical_taken sheet c = or-none c.head ∙ canonical_body_lem sheet c.body
