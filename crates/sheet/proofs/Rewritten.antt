-- What was read from a file that is taken can be written: its rows and the bits of its numbers are in range. So an old sheet that is read and written
-- again is canonical. By induction on the records.
use Rattle.std.proofs.Common.{Option, Some, None}
use mathlib.Core.Path.{◌≡◌, refl, sym, ap, ◌∙◌, subst}
use mathlib.Core.Bool.{true}
use mathlib.Core.List.{List, [], ◌∷◌}
use Prim.Native.Nat.{ℕ, zero, suc, ◌^◌, ◌≤◌, ◌<◌}
use native.Mathlib.Nat.{not-suc-le-zero}
use native.Mathlib.Decide.{ℕ_discrete}
use native.Mathlib.Omega.{arith}
use borrow.Author.Tests.{ltb-true, leb-true}
use lib.Dec.{ltb, leb}
use lib.ListN.{length, get_or, set, drop, length-drop, length-set, get_or-replicate}
use lib.Seq.{get_or-set_same, get_or-set_other}
use Rattle.limits.specs.Limits.{none}
use Rattle.slices.proofs.Bools.{both}
use Rattle.refusal.specs.Refusal.{sheet_cut, sheet_index}
use Rattle.sparse.proofs.First.{or-zero, unless_holds}
use Rattle.matching.specs.Match.{Match}
use Rattle.byte_numbers.specs.Bytes.{number_at}
use Rattle.sheet.specs.declared.Record.{Record}
use Rattle.sheet.specs.Format.{u_bit, v_bit, cmax_bit, u_at, v_at, cmax_at, record_size, field_at, record_with, first_record, row_or_none}
use Rattle.sheet.specs.Reading.{records_of, index_fault, repeat_fault, records_fault, blank, store, stored, max_patches, no_marks, order_of, head_fault}
use Rattle.sheet.specs.Reading.{body_fault, sheet_fault, sheet_match}
use Rattle.sheet.proofs.Lengths.{size_least}
use Rattle.sheet.proofs.Records.{records_is, records_cut, records_end, first_found}
use Rattle.sheet.proofs.RoundTrip.{Good}
use Rattle.sheet.proofs.Canonical.{Bytes, bytes_behind, blank_long}

-- ---- a record that was read
eight_below : (l : List ℕ) (at : ℕ) → Bytes l → number_at 8 l at < 2 ^ 64
unfolding number_at
eight_below l at b =
    omega (
      arith,
      b at,
      b (suc at),
      b (suc (suc at)),
      b (suc (suc (suc at))),
      b (suc (suc (suc (suc at)))),
      b (suc (suc (suc (suc (suc at))))),
      b (suc (suc (suc (suc (suc (suc at)))))),
      b (suc (suc (suc (suc (suc (suc (suc at))))))),
    )

field_below : (bit : ℕ) (l : List ℕ) (at : ℕ) → Bytes l → field_at bit 0 8 l at < 2 ^ 64
unfolding field_at
field_below zero l at b = omega arith
field_below (suc bit) l at b = eight_below l at b

-- its numbers are bits of doubles
record Small (r : Record) : Type 0 where
  u : r.u < 2 ^ 64
  v : r.v < 2 ^ 64
  cmax : r.cmax < 2 ^ 64

with_small : (bits : ℕ) (l : List ℕ) → Bytes l → Small (record_with bits l)
unfolding record_with
with_small bits l b = record {
  u = field_below (u_bit bits) l (u_at bits) b;
  v = field_below (v_bit bits) l (v_at bits) b;
  cmax = field_below (cmax_bit bits) l (cmax_at bits) b;
}

first_small : (l : List ℕ) (r : Record) → first_record l ≡ Some r → Bytes l → Small r
first_small l r e b = subst Small (first_found l r e).1 (with_small (get_or l 2 0) l b)

-- its patch and its row are in range
index_inside : (n : ℕ) (r : Record) → index_fault n r ≡ 0 → (r.patch < n) × (row_or_none n r.row ≡ true)
unfolding index_fault
index_inside n r e =
    let s = both (ltb r.bits 16) _ (unless_holds _ sheet_index (λ z. let q : ⊥ = omega arith in absurd q) e) in
    let t = both (ltb r.patch n) _ s.1 in
    (ltb-true r.patch n t.0, t.1)

-- ---- what holds at every place holds where one is set
set_holds : (P : ℕ → Type 0) (l : List ℕ) (i a : ℕ) {n : ℕ} → length l ≡ n → i < n → P a → ((k : ℕ) → k < n → P (get_or l k 0)) → (k : ℕ) → k < n
    → P (get_or (set l i a) k 0)
set_holds P l i a {n} g h p all k s = go (ℕ_discrete k i)
  where
    go : Dec (k ≡ i) → P (get_or (set l i a) k 0)
    go (yes e) = subst (λ (j : ℕ). P (get_or (set l i a) j 0)) (sym e) (subst P (sym (get_or-set_same l i a 0 (omega arith))) p)
    go (no d) = subst P (sym (get_or-set_other l i k a 0 d)) (all k s)

store_good : {n : ℕ} {l : Match ℕ} (r : Record) → index_fault n r ≡ 0 → Small r → Good n l → Good n (store r l)
store_good {n} {l} r e s g =
    let i = index_inside n r e in
    record {
      few = g.few;
      perm = length-set l.perm r.patch r.row ∙ g.perm;
      u = length-set l.u r.patch r.u ∙ g.u;
      v = length-set l.v r.patch r.v ∙ g.v;
      cmax = length-set l.cmax r.patch r.cmax ∙ g.cmax;
      rows = set_holds (λ (x : ℕ). row_or_none n x ≡ true) l.perm r.patch r.row g.perm i.0 i.1 g.rows;
      u_bits = set_holds (λ (x : ℕ). x < 2 ^ 64) l.u r.patch r.u g.u i.0 s.u g.u_bits;
      v_bits = set_holds (λ (x : ℕ). x < 2 ^ 64) l.v r.patch r.v g.v i.0 s.v g.v_bits;
      cmax_bits = set_holds (λ (x : ℕ). x < 2 ^ 64) l.cmax r.patch r.cmax g.cmax i.0 s.cmax g.cmax_bits;
    }

blank_good : (n : ℕ) → n ≤ 4096 → Good n (blank n)
blank_good n h =
    let long = blank_long n in
    let zero-small : (k : ℕ) → k < n → get_or (blank n).u k 0 < 2 ^ 64 = (λ k l. rw (get_or-replicate {A = ℕ} n k 0 0 l) (omega arith)) in
    record {
      few = h;
      perm = long.perm;
      u = long.u;
      v = long.v;
      cmax = long.cmax;
      rows = λ k l. rw (get_or-replicate {A = ℕ} n k none 0 l) refl;
      u_bits = zero-small;
      v_bits = zero-small;
      cmax_bits = zero-small;
    }

-- ---- the records one after the other
record_passed : (n : ℕ) (marks : List ℕ) (r : Record) (rest : List (Option Record)) → records_fault n marks (Some r ∷ rest) ≡ 0 → (index_fault n r ≡ 0)
    × (records_fault n (set marks r.patch 1) rest ≡ 0)
unfolding records_fault
record_passed n marks r rest e =
    let s = or-zero (index_fault n r) _ e in
    (s.0, (or-zero (repeat_fault (get_or marks r.patch 0)) _ s.1).1)

read_good : (n fuel : ℕ) (marks bytes : List ℕ) (l : Match ℕ) → length bytes ≤ fuel → Bytes bytes → records_fault n marks (records_of bytes) ≡ 0
    → Good n l → Good n (stored (records_of bytes) l)
unfolding stored
read_good n zero marks [] l h b e g = rw (records_end [] refl) g
read_good n zero marks (byte ∷ bytes) l h b e g = absurd (not-suc-le-zero h)
read_good n (suc fuel) marks [] l h b e g = rw (records_end [] refl) g
read_good n (suc fuel) marks (byte ∷ bytes) l h b e g = go (λ m rest x a c d f. read_good n fuel m rest x a c d f) (first_record (byte ∷ bytes)) refl
  where
    go : ((m rest : List ℕ) (x : Match ℕ) → length rest ≤ fuel → Bytes rest → records_fault n m (records_of rest) ≡ 0 → Good n x
        → Good n (stored (records_of rest) x))
        → (found : Option Record) → first_record (byte ∷ bytes) ≡ found → Good n (stored (records_of (byte ∷ bytes)) l)
    go ih None f = rw (records_cut (byte ∷ bytes) (omega arith) f) g
    go ih (Some r) f =
        let rest = drop (record_size r.bits) (byte ∷ bytes) in
        let is : records_of (byte ∷ bytes) ≡ Some r ∷ records_of rest = records_is (byte ∷ bytes) r (omega arith) f in
        let s = record_passed n marks r (records_of rest) (sym (ap (records_fault n marks) is) ∙ e) in
        let short : length rest ≤ fuel = rw (length-drop (record_size r.bits) (byte ∷ bytes)) (omega (arith, size_least r.bits)) in
        rw is
        (ih (set marks r.patch 1) rest (store r l) short (bytes_behind (byte ∷ bytes) (record_size r.bits) b) s.1
        (store_good r s.0 (first_small (byte ∷ bytes) r f b) g))

-- ---- a whole file
few_columns_lem : (sheet : List ℕ) → head_fault sheet ≡ 0 → order_of sheet ≤ 4096
unfolding head_fault
few_columns_lem sheet e =
    leb-true (order_of sheet) max_patches (both (leb 2 (length sheet)) _ (unless_holds _ sheet_cut (λ z. let q : ⊥ = omega arith in absurd q) e)).1

pub taken_good : (sheet : List ℕ) → sheet_fault sheet ≡ 0 → ((i : ℕ) → get_or sheet i 0 < 256) → Good (order_of sheet) (sheet_match sheet)
unfolding body_fault sheet_match
taken_good sheet e b =
    let s = or-zero (head_fault sheet) _ e in
    read_good (order_of sheet) (length (drop 2 sheet)) no_marks (drop 2 sheet) (blank (order_of sheet)) (omega arith) (bytes_behind sheet 2 b) s.1
    (blank_good (order_of sheet) (few_columns_lem sheet s.0))
