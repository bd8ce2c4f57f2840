-- Entries in three lists: the first are as many as asked for, a store past them changes none, and one at the next place adds one. By induction on their number.
use Rattle.std.proofs.Common.{Ok}
use mathlib.Core.Path.{◌≡◌, refl, ap₂}
use mathlib.Core.Bool.{false}
use mathlib.Core.List.{List, [], ◌∷◌, ◌++◌, map, map-append}
use Prim.Native.Nat.{ℕ, zero, suc, ◌+◌, ◌≤◌, ◌<◌}
use native.Mathlib.Numerals.{add-one}
use native.Mathlib.Omega.{arith}
use lib.ListN.{length, take, get_or, set, length-append}
use lib.Seq.{get_or-set_same, get_or-set_other, take-suc}
use Rattle.text_matrix_market.specs.declared.banner.Kind.{Kind}
use Rattle.text_matrix_market.specs.declared.stages.Entry.{Entry}
use Rattle.text_matrix_market.specs.Text.{is_blank_line}
use Rattle.text_matrix_market.specs.File.{line_entry, entering, content}
use Rattle.text_matrix_market.specs.inner.Steps.{Lists, lists, entry_at, first_entries, Places}
use Rattle.text_matrix_market.proofs.Entries.{entered}

pub length_first : (k : ℕ) (l : Lists) → length (first_entries k l) ≡ k
unfolding first_entries
length_first zero l = refl
length_first (suc k) l = let e : length (first_entries k l) ≡ k = length_first k l in simp length-append (omega arith)

-- ---- an entry stored at a place
abbrev pub put : Lists → ℕ → Entry → Lists
put l k t = lists (set l.rows k t.row) (set l.columns k t.column) (set l.weights k t.weight)

first-kept : (k j : ℕ) (l : Lists) (t : Entry) → k ≤ j → first_entries k (put l j t) ≡ first_entries k l
unfolding first_entries
first-kept zero j l t h = refl
first-kept (suc k) j l t h =
    let ne : k ≡ j → ⊥ = λ e. omega arith in
    let r : get_or (set l.rows j t.row) k 0 ≡ get_or l.rows k 0 = get_or-set_other l.rows j k t.row 0 ne in
    let c : get_or (set l.columns j t.column) k 0 ≡ get_or l.columns k 0 = get_or-set_other l.columns j k t.column 0 ne in
    let p : get_or (set l.weights j t.weight) k 0 ≡ get_or l.weights k 0 = get_or-set_other l.weights j k t.weight 0 ne in
    let e : entry_at (put l j t) k ≡ entry_at l k = rw (r, c, p) refl in
    ap₂ (λ (x : List Entry) (y : Entry). x ++ (y ∷ [])) (first-kept k j l t (omega arith)) e

pub one_more : (k : ℕ) (l : Lists) (t : Entry) → Places (k + 1) l → first_entries (k + 1) (put l k t) ≡ first_entries k l ++ (t ∷ [])
unfolding first_entries
one_more k l t h =
    let r : get_or (set l.rows k t.row) k 0 ≡ t.row = get_or-set_same l.rows k t.row 0 (omega (arith, h.0)) in
    let c : get_or (set l.columns k t.column) k 0 ≡ t.column = get_or-set_same l.columns k t.column 0 (omega (arith, h.1)) in
    let p : get_or (set l.weights k t.weight) k 0 ≡ t.weight = get_or-set_same l.weights k t.weight 0 (omega (arith, h.2)) in
    let e : entry_at (put l k t) k ≡ t = rw (r, c, p) refl in
    rw add-one (ap₂ (λ (x : List Entry) (y : Entry). x ++ (y ∷ [])) (first-kept k k l t (omega arith)) e)

-- an entry line: its entry goes to the next place
pub added : (kind : Kind) (n count read : ℕ) (l : Lists) (line : List ℕ) {t : Entry} → is_blank_line line ≡ false → Places count l → read < count
    → line_entry kind n line ≡ Ok t
    → entering kind n count (first_entries (read + 1) (put l read t)) ≡ content (entering kind n count (first_entries read l)) line
added kind n count read l line {t} b p h e =
    let k : length (first_entries read l) ≡ read = length_first read l in
    rw (one_more read l t (omega (arith, p.0), omega (arith, p.1), omega (arith, p.2))) (entered kind n count (first_entries read l) line b (omega arith) e)

-- ---- the front of each list
module _ (l : Lists) (f : Entry → ℕ) (xs : List ℕ) (holds : (k : ℕ) → f (entry_at l k) ≡ get_or xs k 0) where
  pub front : (k : ℕ) → k ≤ length xs → take k xs ≡ map f (first_entries k l)
  unfolding first_entries
  front zero h = refl
  front (suc k) h =
      let e : take k xs ≡ map f (first_entries k l) = front k (omega arith) in
      rw (take-suc xs k 0 (omega arith), map-append, holds k, e) refl
