-- What `write_sheet` promises, by its fault: a refusal that leaves the slice, or the file at its front, which reads back as the match. By the order of
-- the tests.
use Rattle.std.proofs.Common.{Result, Ok, Err}
use mathlib.Core.Path.{◌≡◌, refl, sym, ap, ◌∙◌, subst}
use mathlib.Core.Logic.{◌≢◌}
use mathlib.Core.Bool.{Bool, true, false, ◌&&◌}
use mathlib.Core.List.{List, [], ◌∷◌}
use Prim.Native.Nat.{ℕ, zero, suc, ◌+◌, ◌^◌, ◌≤◌, ◌<◌}
use native.Mathlib.Nat.{not-suc-le-zero, zero-add}
use native.Mathlib.Omega.{arith}
use borrow.Author.Tests.{leb-true, eqb-true}
use lib.Dec.{leb, eqb}
use lib.ListN.{length, get_or, take, drop}
use lib.Seq.{sets-eq, take_at}
use Rattle.limits.specs.Limits.{max_columns}
use Rattle.refusal.specs.Number.{fault_of}
use Rattle.refusal.specs.Listed.{OneOf, write_sheet_numbers}
use Rattle.refusal.specs.Refusal.{matching_range, too_many_columns}
use Rattle.slices.specs.Outcome.{outcome_is, Outcome, refusing}
use Rattle.slices.proofs.Refusing.{refused_is}
use Rattle.sparse.specs.Fault.{unless}
use Rattle.sparse.specs.Validate.{size_fault}
use Rattle.sparse.proofs.First.{or_some, or-zero, unless_holds}
use Rattle.slices.proofs.Bools.{both}
use Rattle.matching.specs.Match.{Match}
use Rattle.text_report.specs.inner.Steps.{Wrote}
use Rattle.sheet.specs.Format.{sheet_bytes, row_or_none, rows_fit, rows_present}
use Rattle.sheet.proofs.Lengths.{sheet_length}
use Rattle.sheet.proofs.RoundTrip.{Good, reads_back}
use Rattle.sheet.proofs.Canonical.{written_canonical}
use Rattle.sheet_writer.specs.Call.{lengths, match_fault, sizes, write_fault, write_outcome, written, Promises}
use Rattle.sheet_writer.proofs.Writing.{lengths_are}
use Rattle.sheet_writer.proofs.Theorems.{write_listed}

-- ---- refusal 10
pub match_fine : (n matched : ℕ) (perm : List ℕ) {fit : Bool} {count : ℕ} → fit ≡ rows_fit n perm → count ≡ rows_present perm
    → (fit && eqb count matched) ≡ true → 0 ≡ match_fault n matched perm
unfolding match_fault
match_fine n matched perm e f h = rw (← e, ← f, h) refl

pub match_not : (n matched : ℕ) (perm : List ℕ) {fit : Bool} {count : ℕ} → fit ≡ rows_fit n perm → count ≡ rows_present perm
    → (fit && eqb count matched) ≡ false → matching_range ≡ match_fault n matched perm
unfolding match_fault
match_not n matched perm e f h = rw (← e, ← f, h) refl

rows_at : (n : ℕ) (perm : List ℕ) → rows_fit n perm ≡ true → (k : ℕ) → k < length perm → row_or_none n (get_or perm k 0) ≡ true
unfolding rows_fit
rows_at n [] e k h = absurd (not-suc-le-zero h)
rows_at n (row ∷ perm) e zero h = (both (row_or_none n row) _ e).0
rows_at n (row ∷ perm) e (suc k) h = rows_at n perm (both (row_or_none n row) _ e).1 k (omega arith)

-- ---- the sizes
pub sizes_passed : (n : ℕ) (fit : Bool) → sizes n fit ≡ 0 → (n ≤ 4096) × (fit ≡ true)
unfolding size_fault
sizes_passed n fit e =
    let s = or-zero (unless (leb n max_columns) too_many_columns) _ e in (
      leb-true n max_columns (unless_holds (leb n max_columns) too_many_columns (λ z. let q : ⊥ = omega arith in absurd q) s.0),
      unless_holds fit 3 (λ z. let q : ⊥ = omega arith in absurd q) s.1,
    )

-- a refusal's number is not 0
refused_outcome : (fault : ℕ) (n : ℕ) (m : Match ℕ) (old new : List ℕ) (x : ℕ) → outcome_is (Err x) new ≡ refusing Err fault
    (written n m old) old → x ≢ 0
refused_outcome zero n m old new x e z =
    let a : Err x ≡ Ok (length (sheet_bytes n m)) = ap (λ (o : Outcome (Result ℕ ℕ) (List ℕ)). o.answer) e in
    let b : ◌≡◌ {A = ℕ} 0 1 = cc in
    let q : ⊥ = omega arith in absurd q
refused_outcome (suc fault) n m old new x e z =
    let a : Err x ≡ Err (suc fault) = ap (λ (o : Outcome (Result ℕ ℕ) (List ℕ)). o.answer) e in
    let b : x ≡ suc fault = cc in
    let q : ⊥ = omega arith in absurd q

pub refused_some : (n matched : ℕ) (m : Match ℕ) (old new : List ℕ) (x : ℕ) → outcome_is (Err x) new ≡ write_outcome n matched m old → x ≢ 0
unfolding write_outcome
refused_some n matched m old new x e = refused_outcome (write_fault n matched m old) n m old new x e

module _ (n matched : ℕ) (m : Match ℕ) (old : List ℕ) where
  numbered : {r : Result ℕ ℕ} {new : List ℕ} → outcome_is r new ≡ write_outcome n matched m old → OneOf write_sheet_numbers (fault_of r)
  numbered e = subst (λ (o : Outcome (Result ℕ ℕ) (List ℕ)). OneOf write_sheet_numbers (fault_of o.answer)) (sym e) (write_listed n matched m old).is

  refused_with : (x : ℕ) → write_fault n matched m old ≡ x → x ≢ 0 → Promises n matched m old (Err x) old
  unfolding write_outcome
  refused_with x e h =
      let o : outcome_is (Err x) old ≡ write_outcome n matched m old = refused_is Err (written n m old) old (sym e) h in
      record { outcome = o; number = numbered o; travels = λ z. absurd (h z) }

  module _ {fit : Bool} {x : ℕ} (f : fit ≡ lengths n m old) (e : x ≡ sizes n fit) where
    pub sizes_refuse : x ≢ 0 → Promises n matched m old (Err x) old
    sizes_refuse h = refused_with x (rw (← f, ← e) (or_some x (match_fault n matched m.perm) h)) h

    module _ (z : x ≡ 0) {y : ℕ} (k : y ≡ match_fault n matched m.perm) where
      pub match_refuses : y ≢ 0 → Promises n matched m old (Err y) old
      match_refuses h = refused_with y (rw (← f, ← e, z) (sym k)) h

      good : y ≡ 0 → ((i : ℕ) → get_or m.u i 0 < 2 ^ 64) → ((i : ℕ) → get_or m.v i 0 < 2 ^ 64) → ((i : ℕ) → get_or m.cmax i 0 < 2 ^ 64) → Good n m
          × (rows_present m.perm ≡ matched)
      unfolding match_fault
      good q bu bv bc =
          let s = sizes_passed n fit (sym e ∙ z) in
          let l = lengths_are n m old (sym f ∙ s.1) in
          let t = both (rows_fit n m.perm) _ (unless_holds _ matching_range (λ w. let q : ⊥ = omega arith in absurd q) (sym k ∙ q)) in (
            record {
              few = s.0;
              perm = l.perm;
              u = l.u;
              v = l.v;
              cmax = l.cmax;
              rows =
                  λ i h. rows_at n m.perm t.0 i (omega (arith, l.perm));
              u_bits = λ i h. bu i;
              v_bits = λ i h. bv i;
              cmax_bits = λ i h. bc i;
            },
            eqb-true (rows_present m.perm) matched t.1,
          )

      pub writes : y ≡ 0 → ((i : ℕ) → get_or m.u i 0 < 2 ^ 64) → ((i : ℕ) → get_or m.v i 0 < 2 ^ 64) → ((i : ℕ) → get_or m.cmax i 0 < 2 ^ 64)
          → {new : List ℕ} {used : ℕ} → Wrote old 0 (sheet_bytes n m) new used
          → Promises n matched m old (Ok used) new
      unfolding write_outcome
      writes q bu bv bc {new} {used} w =
          let g = good q bu bv bc in
          let s = sizes_passed n fit (sym e ∙ z) in
          let l = lengths_are n m old (sym f ∙ s.1) in
          let t : write_fault n matched m old ≡ 0 = rw (← f, ← e, z) (sym k ∙ q) in
          let u : used ≡ length (sheet_bytes n m) = w.place ∙ zero-add _ in
          let room : 0 + length (sheet_bytes n m) ≤ length old = omega (arith, sheet_length n m, l.room) in
          let file : take used new ≡ sheet_bytes n m =
          rw (u, w.bytes, sets-eq (sheet_bytes n m) old 0 room)
          (take_at (sheet_bytes n m) (drop (0 + length (sheet_bytes n m)) old) (length (sheet_bytes n m)) refl) in
          let o : outcome_is (Ok used) new ≡ write_outcome n matched m old = rw (t, u, w.bytes) refl in
          record {
            outcome = o;
            number = numbered o;
            travels = λ d. record { canonical = rw file (written_canonical g.0); means = rw file (reads_back g.0); count = g.1 };
          }
