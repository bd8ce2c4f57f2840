-- The records tested one after the other: the fault of the file is the fault of the records from here on. By one step of the definition each.
use Rattle.std.proofs.Common.{Option, Some, None, Err}
use Rattle.std.specs.Option.{ok_or}
use mathlib.Core.Path.{◌≡◌, refl, sym, ap, ◌∙◌}
use mathlib.Core.Logic.{◌≢◌}
use mathlib.Core.Bool.{Bool, true, false, ◌&&◌}
use mathlib.Core.List.{List}
use Prim.Native.Nat.{ℕ, zero, suc, ◌+◌, ◌-◌, ◌≤◌, ◌<◌}
use native.Mathlib.Omega.{arith}
use borrow.Author.Tests.{ltb-true, eq-eqb, ne_eqb, le-leb, lt-leb}
use lib.Dec.{ltb, eqb}
use lib.ListN.{length, get_or, set, take, drop, length-drop}
use lib.Seq.{take_all, drop-drop}
use Rattle.slices.proofs.Bools.{both}
use Rattle.refusal.specs.declared.Refusal.{Refusal}
use Rattle.refusal.specs.declared.Refusal.TheVariants.{SheetCut}
use Rattle.refusal.specs.Number.{number, number_of}
use Rattle.refusal.specs.Refusal.{sheet_cut, sheet_index, patch_twice, patch_order, needless_field}
use Rattle.sparse.specs.Fault.{unless, or_else}
use Rattle.sparse.proofs.First.{or-none, or_some, unless_holds}
use Rattle.sheet.specs.declared.Record.{Record}
use native.Mathlib.Numerals.{add-one}
use Rattle.sheet.specs.Format.{record_size, first_record, bits_of, row_or_none}
use Rattle.sheet.specs.Canonical.{needless_fault, rising_fault, canonical_fault}
use Rattle.sheet.specs.Reading.{records_of, index_fault, repeat_fault, records_fault}
use Rattle.sheet.proofs.Records.{records_is, records_cut, records_end, first_size}

-- the bytes from `at` on, as they are lent
pub rest-is : (l : List ℕ) (at : ℕ) → take (length l - at) (drop at l) ≡ drop at l
rest-is l at = take_all (length l - at) (drop at l) (rw (length-drop at l) (omega arith))

pub first-at : (l : List ℕ) (at : ℕ) {x y : Option Record} → x ≡ first_record (take (length l - at) (drop at l)) → x ≡ y → first_record (drop at l) ≡ y
first-at l at e f = sym (ap first_record (rest-is l at)) ∙ sym e ∙ f

-- a record's bytes are all there
pub size_within : (l : List ℕ) (at : ℕ) (r : Record) → at < length l → first_record (drop at l) ≡ Some r → at + record_size r.bits ≤ length l
size_within l at r h e = let s = first_size (drop at l) r e in omega (arith, length-drop at l)

some_left : (l : List ℕ) (at : ℕ) → at < length l → 0 < length (drop at l)
some_left l at h = rw (length-drop at l) (omega arith)

pub patch_below : (n : ℕ) (r : Record) → index_fault n r ≡ 0 → r.patch < n
unfolding index_fault
patch_below n r e =
    let s = both (ltb r.bits 16) _ (unless_holds _ sheet_index (λ z. let q : ⊥ = omega arith in absurd q) e) in
    ltb-true r.patch n (both (ltb r.patch n) _ s.1).0

-- the refusal of a record that is cut
pub cut_number : {refusal : Refusal} {found : Option Record} → Err refusal ≡ ok_or found SheetCut → found ≡ None → number refusal ≡ sheet_cut
cut_number {refusal} e f = ap number_of (e ∙ ap (λ (found : Option Record). ok_or found SheetCut) f)

-- ---- the records before `at` are passed
abbrev pub fault_from : ℕ → List ℕ → List ℕ → ℕ → ℕ
fault_from n sheet marks at = records_fault n marks (records_of (drop at sheet))

module _ (n : ℕ) (sheet marks : List ℕ) (at : ℕ) where
  pub all_passed : length sheet ≤ at → fault_from n sheet marks at ≡ 0
  unfolding records_fault
  all_passed h = rw (records_end (drop at sheet) (length-drop at sheet ∙ omega arith)) refl

  pub cut_here : at < length sheet → first_record (drop at sheet) ≡ None → fault_from n sheet marks at ≡ sheet_cut
  unfolding records_fault
  cut_here h e = rw (records_cut (drop at sheet) (some_left sheet at h) e) refl

  module _ (r : Record) (h : at < length sheet) (e : first_record (drop at sheet) ≡ Some r) where
    record_here : fault_from n sheet marks at ≡ or_else (index_fault n r)
        (or_else (repeat_fault (get_or marks r.patch 0)) (fault_from n sheet (set marks r.patch 1) (at + record_size r.bits)))
    unfolding records_fault
    record_here = rw (records_is (drop at sheet) r (some_left sheet at h) e, drop-drop (record_size r.bits) at sheet) refl

    pub index_here : {x : ℕ} → x ≡ index_fault n r → x ≢ 0 → fault_from n sheet marks at ≡ x
    index_here {x} f s = record_here ∙ or_some (index_fault n r) _ (λ z. s (f ∙ z)) ∙ sym f

    pub repeat_here : {x y : ℕ} → x ≡ index_fault n r → x ≡ 0 → y ≡ repeat_fault (get_or marks r.patch 0) → y ≢ 0 → fault_from n sheet marks at ≡ y
    repeat_here {x} {y} f z k s = record_here ∙ or-none (sym f ∙ z) ∙ or_some (repeat_fault (get_or marks r.patch 0)) _ (λ q. s (k ∙ q)) ∙ sym k

    pub passed : {x y : ℕ} → x ≡ index_fault n r → x ≡ 0 → y ≡ repeat_fault (get_or marks r.patch 0) → y ≡ 0
        → fault_from n sheet marks at ≡ fault_from n sheet (set marks r.patch 1) (at + record_size r.bits)
    passed {x} {y} f z k s = record_here ∙ or-none (sym f ∙ z) ∙ or-none (sym k ∙ s)

-- ---- tests
pub index_so : (n : ℕ) (r : Record) → (ltb r.bits 16 && (ltb r.patch n && row_or_none n r.row)) ≡ true → 0 ≡ index_fault n r
unfolding index_fault
index_so n r e = rw e refl

pub index_not : (n : ℕ) (r : Record) → (ltb r.bits 16 && (ltb r.patch n && row_or_none n r.row)) ≡ false → sheet_index ≡ index_fault n r
unfolding index_fault
index_not n r e = rw e refl

pub mark_none : (mark : ℕ) → mark ≡ 0 → 0 ≡ repeat_fault mark
unfolding repeat_fault
mark_none mark e = rw (eq-eqb mark 0 e) refl

pub mark_some : (mark : ℕ) → mark ≢ 0 → patch_twice ≡ repeat_fault mark
unfolding repeat_fault
mark_some mark h = rw (ne_eqb mark 0 h) refl

-- ---- the records of a canonical file before `at` are passed
or_joined : (a b c : ℕ) → or_else a (or_else b c) ≡ or_else (or_else a b) c
or_joined zero b c = refl
or_joined (suc a) b c = refl

abbrev pub canonical_from : ℕ → List ℕ → ℕ → ℕ → ℕ
canonical_from n sheet next at = canonical_fault n next (records_of (drop at sheet))

module _ (n : ℕ) (sheet : List ℕ) (next at : ℕ) where
  pub canonical_end : length sheet ≤ at → canonical_from n sheet next at ≡ 0
  unfolding canonical_fault
  canonical_end h = rw (records_end (drop at sheet) (length-drop at sheet ∙ omega arith)) refl

  pub canonical_cut : at < length sheet → first_record (drop at sheet) ≡ None → canonical_from n sheet next at ≡ sheet_cut
  unfolding canonical_fault
  canonical_cut h e = rw (records_cut (drop at sheet) (some_left sheet at h) e) refl

  module _ (r : Record) (h : at < length sheet) (e : first_record (drop at sheet) ≡ Some r) where
    canonical_here : canonical_from n sheet next at ≡ or_else (index_fault n r)
        (or_else (needless_fault r) (or_else (rising_fault next r) (canonical_from n sheet (suc r.patch) (at + record_size r.bits))))
    unfolding canonical_fault
    canonical_here = rw (records_is (drop at sheet) r (some_left sheet at h) e, drop-drop (record_size r.bits) at sheet) refl

    pub canonical_index : {x : ℕ} → x ≡ index_fault n r → x ≢ 0 → canonical_from n sheet next at ≡ x
    canonical_index {x} f s = canonical_here ∙ or_some (index_fault n r) _ (λ z. s (f ∙ z)) ∙ sym f

    module _ {x : ℕ} (f : x ≡ index_fault n r) (z : x ≡ 0) {y : ℕ} (k : y ≡ or_else (needless_fault r) (rising_fault next r)) where
      canonical_tests : canonical_from n sheet next at ≡ or_else (or_else (needless_fault r) (rising_fault next r))
          (canonical_from n sheet (suc r.patch) (at + record_size r.bits))
      canonical_tests = canonical_here ∙ or-none (sym f ∙ z) ∙ or_joined (needless_fault r) (rising_fault next r) _

      pub canonical_fault_lem : y ≢ 0 → canonical_from n sheet next at ≡ y
      canonical_fault_lem s = canonical_tests ∙ or_some (or_else (needless_fault r) (rising_fault next r)) _ (λ q. s (k ∙ q)) ∙ sym k

      pub canonical_passed : y ≡ 0 → canonical_from n sheet next at ≡ canonical_from n sheet (r.patch + 1) (at + record_size r.bits)
      canonical_passed s = rw (add-one r.patch) (canonical_tests ∙ or-none (sym k ∙ s))

-- 45, then 44
pub needless_first : (next : ℕ) (r : Record) {x : ℕ} → x ≡ needless_fault r → x ≢ 0 → x ≡ or_else (needless_fault r) (rising_fault next r)
needless_first next r e h = e ∙ sym (or_some (needless_fault r) _ (λ z. h (e ∙ z)))

pub rising_second : (next : ℕ) (r : Record) {x y : ℕ} → x ≡ needless_fault r → x ≡ 0 → y ≡ rising_fault next r → y ≡ or_else (needless_fault r) (rising_fault next r)
rising_second next r e z f = f ∙ sym (or-none (sym e ∙ z))

-- the map of the fields, and not an empty one
pub needless_is : (r : Record) {map : ℕ} {x : Bool} → map ≡ bits_of r.row r.u r.v r.cmax
    → (ltb 0 r.bits && eqb r.bits map) ≡ x → unless x needless_field ≡ needless_fault r
unfolding needless_fault
needless_is r e t = rw (← t, e) refl

pub rises_so : (next : ℕ) (r : Record) → next ≤ r.patch → 0 ≡ rising_fault next r
unfolding rising_fault
rises_so next r h = rw (le-leb next r.patch h) refl

pub rises_not : (next : ℕ) (r : Record) → r.patch < next → patch_order ≡ rising_fault next r
unfolding rising_fault
rises_not next r h = rw (lt-leb next r.patch h) refl
