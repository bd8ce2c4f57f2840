-- The records stored one after the other: what comes of all is what comes of those from here on. By one step of the definition each.
use Rattle.std.proofs.Common.{Option, Some, None}
use mathlib.Core.Path.{◌≡◌, refl, ◌∙◌}
use mathlib.Core.Bool.{true}
use mathlib.Core.List.{List, [], ◌∷◌}
use Prim.Native.Nat.{ℕ, ◌+◌, ◌≤◌, ◌<◌}
use native.Mathlib.Omega.{arith}
use borrow.Author.Tests.{eqb-true}
use lib.Dec.{eqb}
use lib.ListN.{length, get_or, set, drop, replicate, length-drop}
use lib.Seq.{drop-drop}
use Rattle.limits.specs.Limits.{none}
use Rattle.slices.proofs.Bools.{both}
use Rattle.sparse.proofs.First.{or-zero}
use Rattle.matching.specs.Match.{Match, match_of}
use Rattle.sheet.specs.declared.Record.{Record}
use Rattle.sheet.specs.Format.{record_size, first_record}
use Rattle.sheet.specs.Reading.{records_of, index_fault, repeat_fault, records_fault, no_marks, store, stored, order_of}
use Rattle.sheet.specs.Reading.{body_fault, sheet_match}
use Rattle.sheet.specs.inner.Steps.{Inside}
use Rattle.sheet.proofs.Records.{records_is, records_cut, records_end}
use Rattle.sheet_reader.specs.Call.{lengths}
use Rattle.sheet_reader.proofs.Tested.{patch_below}

abbrev pub stored_from : List ℕ → ℕ → Match ℕ → Match ℕ
stored_from sheet at m = stored (records_of (drop at sheet)) m

module _ (sheet : List ℕ) (at : ℕ) (m : Match ℕ) where
  pub all_stored : length sheet ≤ at → stored_from sheet at m ≡ m
  unfolding stored
  all_stored h = rw (records_end (drop at sheet) (length-drop at sheet ∙ omega arith)) refl

  pub cut_stored : at < length sheet → first_record (drop at sheet) ≡ None → stored_from sheet at m ≡ m
  unfolding stored
  cut_stored h e = rw (records_cut (drop at sheet) (rw (length-drop at sheet) (omega arith)) e) refl

  module _ (r : Record) (h : at < length sheet) (e : first_record (drop at sheet) ≡ Some r) where
    pub next_stored : stored_from sheet at m ≡ stored_from sheet (at + record_size r.bits) (store r m)
    unfolding stored
    next_stored = rw (records_is (drop at sheet) r (rw (length-drop at sheet) (omega arith)) e, drop-drop (record_size r.bits) at sheet) refl

module _ (n : ℕ) (sheet : List ℕ) (at : ℕ) (r : Record) (h : at < length sheet) (e : first_record (drop at sheet) ≡ Some r) where
  pub inside_here : Inside n (records_of (drop at sheet)) → (r.patch < n) × Inside n (records_of (drop (at + record_size r.bits) sheet))
  unfolding Inside
  inside_here i = rw (records_is (drop at sheet) r (rw (length-drop at sheet) (omega arith)) e, drop-drop (record_size r.bits) at sheet) at i

-- records without a fault are inside
tested_inside : (n : ℕ) (marks : List ℕ) (found : List (Option Record)) → records_fault n marks found ≡ 0 → Inside n found
unfolding records_fault Inside
tested_inside n marks [] e = tt
tested_inside n marks (None ∷ rest) e = tt
tested_inside n marks (Some r ∷ rest) e =
    let s = or-zero (index_fault n r) _ e in
    let t = or-zero (repeat_fault (get_or marks r.patch 0)) _ s.1 in
    (patch_below n r s.0, tested_inside n (set marks r.patch 1) rest t.1)

pub body_inside : (sheet : List ℕ) → body_fault sheet ≡ 0 → Inside (order_of sheet) (records_of (drop 2 sheet))
unfolding body_fault
body_inside sheet e = tested_inside (order_of sheet) no_marks (records_of (drop 2 sheet)) e

-- every slice has its length
pub record Lengths (n : ℕ) (m : Match ℕ) : Type 0 where
  pub perm : length m.perm ≡ n
  pub u : length m.u ≡ n
  pub v : length m.v ≡ n
  pub cmax : length m.cmax ≡ n

pub lengths_are : (n : ℕ) (m : Match ℕ) → lengths n m ≡ true → Lengths n m
unfolding lengths
lengths_are n m e =
    let a = both (eqb (length m.perm) n) _ e in
    let b = both (eqb (length m.u) n) _ a.1 in
    let c = both (eqb (length m.v) n) _ b.1 in
    record { perm = eqb-true _ _ a.0; u = eqb-true _ _ b.0; v = eqb-true _ _ c.0; cmax = eqb-true _ _ c.1 }

pub blank_stored : (sheet p u v c : List ℕ) → p ≡ replicate (order_of sheet) none → u ≡ replicate (order_of sheet) 0 → v ≡ replicate (order_of sheet) 0
    → c ≡ replicate (order_of sheet) 0
    → stored_from sheet 2 (match_of p u v c) ≡ sheet_match sheet
unfolding sheet_match
blank_stored sheet p u v c e f g h = rw (e, f, g, h) refl
