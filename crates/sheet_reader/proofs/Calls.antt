-- What a reader's call leaves, by its fault: everything as it was, or the match of the file. By the order of the tests.
use Rattle.std.proofs.Common.{Option, Result, Ok, Err}
use Rattle.std.specs.Option.{unwrap_or}
use Rattle.std.specs.Result.{result_err}
use mathlib.Core.Path.{◌≡◌, refl, sym, ap, ◌∙◌}
use mathlib.Core.Logic.{◌≢◌}
use mathlib.Core.Bool.{Bool, true, false}
use mathlib.Core.List.{List}
use Prim.Native.Nat.{ℕ, zero, suc, ◌≤◌}
use native.Mathlib.Omega.{arith}
use borrow.Author.Tests.{leb-true}
use lib.Dec.{leb}
use lib.ListN.{length, drop}
use Rattle.refusal.specs.declared.Refusal.{Refusal}
use Rattle.refusal.specs.declared.Refusal.TheVariants.{SliceLength}
use Rattle.refusal.specs.Number.{number, number_of, fault_of}
use Rattle.refusal.proofs.Numbers.{number_ne_zero}
use Rattle.refusal.specs.Refusal.{slice_length, sheet_cut}
use Rattle.slices.specs.Outcome.{outcome_is, Outcome}
use Rattle.slices.proofs.Refusing.{refused_is}
use Rattle.sparse.specs.Fault.{or_else}
use Rattle.sparse.proofs.First.{or-none, or_some, or-zero, unless_holds}
use Rattle.slices.proofs.Bools.{both}
use Rattle.matching.specs.Match.{Match}
use Rattle.sheet.specs.Format.{rows_present}
use Rattle.sheet.specs.Reading.{records_of, records_fault, no_marks, max_patches, order_of, head_fault, body_fault, sheet_match}
use Rattle.sheet.specs.Canonical.{canonical_fault, canonical_body}
use Rattle.sheet_reader.specs.Call.{lengths, sizes, outcome, outcome_by, read_all}
use Rattle.sheet_reader.specs.inner.Steps.{unless_fault, tested_order}

pub head_passed : (sheet : List ℕ) → head_fault sheet ≡ 0 → (2 ≤ length sheet) × (order_of sheet ≤ 4096)
unfolding head_fault
head_passed sheet e =
    let s = both (leb 2 (length sheet)) _ (unless_holds _ sheet_cut (λ z. let q : ⊥ = omega arith in absurd q) e) in
    (leb-true 2 (length sheet) s.0, leb-true (order_of sheet) max_patches s.1)

-- the fault of the records, by n
pub body_is : (sheet : List ℕ) {n : ℕ} → n ≡ order_of sheet → records_fault n no_marks (records_of (drop 2 sheet)) ≡ body_fault sheet
unfolding body_fault
body_is sheet e = rw e refl

pub canonical_is : (sheet : List ℕ) {n : ℕ} → n ≡ order_of sheet → canonical_fault n 0 (records_of (drop 2 sheet)) ≡ canonical_body sheet
unfolding canonical_body
canonical_is sheet e = rw e refl

-- a refusal's number is not 0
refused_outcome : (fault : ℕ) (sheet : List ℕ) (before after : Match ℕ) (x : ℕ) → outcome_is (Err x) after ≡ outcome fault sheet before → x ≢ 0
refused_outcome zero sheet before after x e z =
    let a : ◌≡◌ {A = Result (ℕ × ℕ) ℕ} (Err x) (Ok (order_of sheet, rows_present (sheet_match sheet).perm)) =
    ap (λ (o : Outcome (Result (ℕ × ℕ) ℕ) (Match ℕ)). o.answer) e in
    let b : ◌≡◌ {A = ℕ} 0 1 = cc in
    let q : ⊥ = omega arith in absurd q
refused_outcome (suc fault) sheet before after x e z =
    let b : x ≡ suc fault = ap fault_of (ap (λ (o : Outcome (Result (ℕ × ℕ) ℕ) (Match ℕ)). o.answer) e) in
    let q : ⊥ = omega arith in absurd q

pub refused_some : (body : ℕ) (sheet : List ℕ) (before after : Match ℕ) (x : ℕ) → outcome_is (Err x) after ≡ outcome_by body sheet before → x ≢ 0
unfolding outcome_by
refused_some body sheet before after x e = refused_outcome (or_else (sizes sheet (lengths (order_of sheet) before)) body) sheet before after x e

-- the sizes where a length is wrong: the fault of n, or 3
pub length_number : (sheet : List ℕ) (head : Result Unit Refusal) {err : Option Refusal} {answer : Refusal} → number_of head ≡ head_fault sheet
    → err ≡ result_err head → answer ≡ unwrap_or err SliceLength → number answer ≡ sizes sheet false
length_number sheet head e f g = ap number (g ∙ ap (λ (x : Option Refusal). unwrap_or x SliceLength) f) ∙ go head e
  where
    go : (head : Result Unit Refusal) → number_of head ≡ head_fault sheet → number (unwrap_or (result_err head) SliceLength) ≡ sizes sheet false
    go (Ok x) e = sym (or-none (sym e))
    go (Err refusal) e = e ∙ sym (or_some (head_fault sheet) _ (λ z. number_ne_zero refusal (e ∙ z)))

pub some_fault : (sheet : List ℕ) → sizes sheet false ≢ 0
some_fault sheet z = let s = (or-zero (head_fault sheet) _ z).1 in let q : ⊥ = omega arith in absurd q

-- ---- n, once it and the lengths are tested
pub record Ordered (sheet : List ℕ) (before : Match ℕ) (n : ℕ) : Type 0 where
  pub head : head_fault sheet ≡ 0
  pub order : n ≡ order_of sheet
  pub fit : lengths n before ≡ true

module _ (sheet : List ℕ) (before : Match ℕ) where
  pub order_head : {x : ℕ} → x ≡ head_fault sheet → x ≢ 0 → Err x ≡ tested_order sheet before
  unfolding tested_order
  order_head {x} e h = go x e h
    where
      go : (x : ℕ) → x ≡ head_fault sheet → x ≢ 0 → Err x ≡ unless_fault (sizes sheet (lengths (order_of sheet) before)) (order_of sheet)
      go zero e h = absurd (h refl)
      go (suc x) e h = rw (← e) refl

  module _ (z : head_fault sheet ≡ 0) {n : ℕ} (o : n ≡ order_of sheet) {fit : Bool} (f : fit ≡ lengths n before) where
    pub order_lengths : fit ≡ false → Err slice_length ≡ tested_order sheet before
    unfolding tested_order
    order_lengths h = rw (z, ← o, ← f, h) refl

    pub order_taken : fit ≡ true → Ok n ≡ tested_order sheet before
    unfolding tested_order
    order_taken h = rw (z, ← o, ← f, h) refl

  value : Result ℕ ℕ → ℕ
  value (Ok n) = n
  value (Err x) = 0

  pub ordered : {n : ℕ} → Ok n ≡ tested_order sheet before → Ordered sheet before n
  unfolding tested_order value
  ordered {n} e = go (sizes sheet (lengths (order_of sheet) before)) refl e
    where
      go : (s : ℕ) → sizes sheet (lengths (order_of sheet) before) ≡ s → Ok n ≡ unless_fault s (order_of sheet) → Ordered sheet before n
      go zero z e =
          let o : n ≡ order_of sheet = ap value e in
          let s = or-zero (head_fault sheet) _ z in
          record { head = s.0; order = o; fit = rw o (unless_holds _ slice_length (λ w. let q : ⊥ = omega arith in absurd q) s.1) }
      go (suc s) z e = let a : 0 ≡ suc s = ap fault_of e in let q : ⊥ = omega arith in absurd q

module _ (body : ℕ) (sheet : List ℕ) (before : Match ℕ) where
  refused_with : (x : ℕ) → or_else (sizes sheet (lengths (order_of sheet) before)) body ≡ x → x ≢ 0 → outcome_is (Err x) before ≡ outcome_by body sheet before
  unfolding outcome_by
  refused_with x e h = refused_is Err (read_all sheet) before (sym e) h

  pub order_refuses : {x : ℕ} → Err x ≡ tested_order sheet before → x ≢ 0 → outcome_is (Err x) before ≡ outcome_by body sheet before
  unfolding tested_order
  order_refuses {x} e h = refused_with x (go (sizes sheet (lengths (order_of sheet) before)) e) h
    where
      go : (s : ℕ) → Err x ≡ unless_fault s (order_of sheet) → or_else s body ≡ x
      go zero e = absurd (h (ap fault_of e))
      go (suc s) e = sym (ap fault_of e)

  module _ {n : ℕ} (o : Ordered sheet before n) where
    sizes_none : sizes sheet (lengths (order_of sheet) before) ≡ 0
    sizes_none = rw (o.head, ← o.order, o.fit) refl

    pub records_refuse : {y : ℕ} → y ≡ body → y ≢ 0 → outcome_is (Err y) before ≡ outcome_by body sheet before
    records_refuse {y} b s = refused_with y (rw sizes_none (sym b)) s

    pub reads : {count : ℕ} {after : Match ℕ} → body ≡ 0 → after ≡ sheet_match sheet → count ≡ rows_present after.perm
        → outcome_is (Ok (n, count)) after ≡ outcome_by body sheet before
    unfolding outcome_by
    reads {count} {after} b a k = rw (sizes_none, b, k, a, o.order) refl
