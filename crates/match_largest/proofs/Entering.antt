-- The columns of the rows, entered column by column: what the array says after j columns, and the result of the test of the next pair.
use mathlib.Core.Path.{◌≡◌, refl, sym, ap, ◌∙◌, subst}
use mathlib.Core.Logic.{◌≢◌}
use mathlib.Core.Bool.{Bool, true, false}
use mathlib.Core.List.{List}
use Prim.Native.Nat.{ℕ, ◌+◌, ◌-◌, ◌≤◌, ◌<◌}
use native.Mathlib.Nat.{not-suc-le-zero}
use native.Mathlib.Decide.{ℕ_discrete}
use native.Mathlib.Omega.{arith}
use borrow.Author.Tests.{eq-eqb, ne_eqb, lt-ltb, le-ltb}
use lib.Dec.{eqb}
use lib.ListN.{length, get_or, set, replicate, length-replicate, get_or-replicate, length-set}
use lib.Seq.{get_or-set_same, get_or-set_other}
use Rattle.limits.specs.Limits.{none}
use Rattle.match_check.specs.Check.{some_of, taken_before, pair_stands}
use Rattle.match_check.proofs.Columns.{some_column}
use Rattle.sparse.specs.Pattern.{pattern}
use Rattle.match_largest.specs.Marks.{row_at, pair_fits}
use Rattle.match_largest.specs.inner.Sweeps.{Entered}
use Rattle.match_largest.proofs.Pairs.{taken_by, by_taken}

pub enter_begins : (n : ℕ) (perm : List ℕ) {inverse : List ℕ} → n ≤ 4096 → inverse ≡ replicate 4096 4096 → Entered n perm 0 inverse
enter_begins n perm few e = record {
  places = ap length e ∙ length-replicate {A = ℕ} 4096 4096;
  taken = λ i c h l q. absurd (not-suc-le-zero l);
  back = λ i h l. let z : ⊥ = omega (arith, ap (λ (m : List ℕ). get_or m i 0) e, get_or-replicate {A = ℕ} 4096 i 4096 0 (omega arith)) in absurd z;
}

module _ {n : ℕ} {perm : List ℕ} {j : ℕ} {inverse : List ℕ} (a : Entered n perm j inverse) (few : n ≤ 4096) (h : j < n) where
  earlier : {c : ℕ} → c < j + 1 → c ≢ j → c < j
  earlier l d = omega arith

  -- a column that enters nothing
  skip : (row_at perm j < n → get_or inverse (row_at perm j) 0 < n) → Entered n perm (j + 1) inverse
  skip f = record { places = a.places; taken = taken; back = λ i b l. let r = a.back i b l in (omega (arith, r.0), r.1) }
    where
      taken : (i c : ℕ) → i < n → c < j + 1 → row_at perm c ≡ i → get_or inverse i 0 < n
      taken i c b l e = elim (ℕ_discrete c j) [
        | yes q ↦
            let r : row_at perm j ≡ i = ap (row_at perm) (sym q) ∙ e in
            subst (λ (m : ℕ). get_or inverse m 0 < n) r (f (omega arith))
        | no d ↦ a.taken i c b (earlier l d) e
      ]

  -- a column that enters its row
  put : row_at perm j < n → Entered n perm (j + 1) (set inverse (row_at perm j) j)
  put r = record { places = length-set inverse (row_at perm j) j ∙ a.places; taken = taken; back = back }
    where
      here : get_or (set inverse (row_at perm j) j) (row_at perm j) 0 ≡ j
      here = get_or-set_same inverse (row_at perm j) j 0 (omega (arith, a.places))

      there : (i : ℕ) → i ≢ row_at perm j → get_or (set inverse (row_at perm j) j) i 0 ≡ get_or inverse i 0
      there i d = get_or-set_other inverse (row_at perm j) i j 0 d

      at : (i : ℕ) → i ≡ row_at perm j → get_or (set inverse (row_at perm j) j) i 0 ≡ j
      at i e = ap (λ (m : ℕ). get_or (set inverse (row_at perm j) j) m 0) e ∙ here

      taken : (i c : ℕ) → i < n → c < j + 1 → row_at perm c ≡ i → get_or (set inverse (row_at perm j) j) i 0 < n
      taken i c b l e = elim (ℕ_discrete i (row_at perm j)) [
        | yes q ↦ omega (arith, at i q)
        | no d ↦ omega (arith, there i d, a.taken i c b (earlier l (λ q. d (sym e ∙ ap (row_at perm) q))) e)
      ]

      back : (i : ℕ) → i < n → get_or (set inverse (row_at perm j) j) i 0 < n → (get_or (set inverse (row_at perm j) j) i 0 < j + 1)
          × (row_at perm (get_or (set inverse (row_at perm j) j) i 0) ≡ i)
      back i b l = elim (ℕ_discrete i (row_at perm j)) [
        | yes q ↦ (omega (arith, at i q), ap (row_at perm) (at i q) ∙ sym q)
        | no d ↦
            let r = a.back i b (subst (λ (m : ℕ). m < n) (there i d) l) in
            (omega (arith, there i d, r.0), ap (row_at perm) (there i d) ∙ r.1)
      ]

  -- ---- what the test of the pair is worth
  module _ (col_ptr row_idx : List ℕ) where
    pub enters_none : row_at perm j ≡ none → (true ≡ pair_fits (pattern n col_ptr row_idx) perm j) × Entered n perm (j + 1) inverse
    enters_none e = (rw (eq-eqb (row_at perm j) none e) refl, skip (λ l. let z : ⊥ = omega (arith, e) in absurd z))

    module _ (f : row_at perm j ≢ none) where
      pub enters_beyond : n ≤ row_at perm j → (false ≡ pair_fits (pattern n col_ptr row_idx) perm j) × Entered n perm (j + 1) inverse
      enters_beyond l = (rw (ne_eqb (row_at perm j) none f, le-ltb (row_at perm j) n l) refl, skip (λ b. let z : ⊥ = omega arith in absurd z))

      module _ (b : row_at perm j < n) where
        pub enters_twice : get_or inverse (row_at perm j) 0 < n → (false ≡ pair_fits (pattern n col_ptr row_idx) perm j) × Entered n perm (j + 1) inverse
        enters_twice l =
            let r = a.back (row_at perm j) b l in
            let t : taken_before perm j (row_at perm j) ≡ true = by_taken perm j (row_at perm j) (get_or inverse (row_at perm j) 0) r.0 r.1 in
            (rw (ne_eqb (row_at perm j) none f, lt-ltb (row_at perm j) n b, t) refl, skip (λ c. l))

        clear : n ≤ get_or inverse (row_at perm j) 0 → taken_before perm j (row_at perm j) ≡ false
        clear l = go (taken_before perm j (row_at perm j)) refl
          where
            go : (t : Bool) → taken_before perm j (row_at perm j) ≡ t → t ≡ false
            go true e =
                let r = taken_by perm j (row_at perm j) e in
                let z : ⊥ = omega (arith, a.taken (row_at perm j) r.0 b r.1 r.2) in
                absurd z
            go false e = refl

        pub enters_pair : n ≤ get_or inverse (row_at perm j) 0 → {r : Bool}
            → r ≡ some_of (get_or col_ptr (j + 1) 0 - get_or col_ptr j 0) (λ k. eqb (get_or row_idx k 0) (row_at perm j)) (get_or col_ptr j 0)
            → (r ≡ pair_fits (pattern n col_ptr row_idx) perm j) × Entered n perm (j + 1) (set inverse (row_at perm j) j)
        enters_pair l {r} e =
            let s : pair_stands (pattern n col_ptr row_idx) perm j ≡ r = some_column col_ptr (λ k. eqb (get_or row_idx k 0) (row_at perm j)) j e in
            (rw (ne_eqb (row_at perm j) none f, lt-ltb (row_at perm j) n b, clear l) (sym s), put b)
