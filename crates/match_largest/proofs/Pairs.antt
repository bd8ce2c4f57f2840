-- The test of the pairs passes exactly if each is an entry of its column and no row occurs twice. By the places of each test.
use mathlib.Core.Path.{◌≡◌, refl, sym, ◌∙◌, subst}
use mathlib.Core.Logic.{◌≢◌}
use mathlib.Core.Bool.{Bool, true, false, ◌&&◌, ◌||◌}
use mathlib.Core.List.{List}
use Prim.Native.Nat.{ℕ, ◌+◌, ◌-◌, ◌≤◌, ◌<◌}
use native.Mathlib.Nat.{zero-add}
use native.Mathlib.Decide.{ℕ_discrete, dec_lt}
use native.Mathlib.Omega.{arith}
use borrow.Author.Tests.{eqb-true, eqb-false, eq-eqb, ne_eqb, lt-ltb, ltb-true, not-true}
use lib.Dec.{eqb, ltb}
use lib.ListN.{get_or}
use Rattle.limits.specs.Limits.{none}
use Rattle.slices.proofs.Bools.{both}
use Rattle.sparse.specs.Columns.{Columns}
use Rattle.sparse.specs.Pattern.{Pattern, row_of, column_of, entries, start, end, bipartite, InColumn}
use Rattle.sparse.proofs.Columns.{in_column_lem, in_range_lem, column-is, in_entries}
use Rattle.match_check.specs.Check.{taken_before, row_fresh, pair_stands}
use Rattle.match_check.proofs.Every.{every_first, first_every}
use Rattle.match_check.proofs.Pairing.{some_place, some_none, none-some, some_found}
use Rattle.match_largest.specs.Marks.{row_at, is_free, pair_fits, pairs_fit}
use Rattle.match_largest.proofs.Berge.{Good}

-- ---- which columns have a row
pub taken_by : (perm : List ℕ) (m i : ℕ) → taken_before perm m i ≡ true → (c : ℕ) × (c < m) × (row_at perm c ≡ i)
taken_by perm m i t = let r = some_place (λ c. eqb (get_or perm c 0) i) m 0 t in (r.0, omega (arith, r.2), eqb-true _ _ r.3)

pub by_taken : (perm : List ℕ) (m i c : ℕ) → c < m → row_at perm c ≡ i → taken_before perm m i ≡ true
by_taken perm m i c h e = some_found (λ d. eqb (get_or perm d 0) i) m 0 c (omega arith) (omega arith) (eq-eqb _ _ e)

pub not_taken : (perm : List ℕ) (m i : ℕ) → taken_before perm m i ≡ false → (c : ℕ) → c < m → row_at perm c ≢ i
not_taken perm m i t c h =
    eqb-false (get_or perm c 0) i (subst (λ (d : ℕ). eqb (get_or perm d 0) i ≡ false) (zero-add c) (some_none (λ d. eqb (get_or perm d 0) i) m 0 t c h))

-- ---- a pair that fits
pub record Fits (g : Pattern) (perm : List ℕ) (j : ℕ) : Type 0 where
  pub below : row_at perm j < g.n
  pub fresh : taken_before perm j (row_at perm j) ≡ false
  pub stands : pair_stands g perm j ≡ true

module _ (g : Pattern) (perm : List ℕ) (t : pairs_fit g perm ≡ true) where
  pub fits_at : (j : ℕ) → j < g.n → row_at perm j ≢ none → Fits g perm j
  unfolding pairs_fit
  fits_at j h f =
      let e : (is_free perm j || (ltb (row_at perm j) g.n && (row_fresh perm j && pair_stands g perm j))) ≡ true = every_first (pair_fits g perm) g.n t j h in
      let q : is_free perm j ≡ false = ne_eqb (row_at perm j) none f in
      let a : (ltb (row_at perm j) g.n && (row_fresh perm j && pair_stands g perm j)) ≡ true =
      subst (λ (b : Bool). (b || (ltb (row_at perm j) g.n && (row_fresh perm j && pair_stands g perm j))) ≡ true) q e in
      let b = both (ltb (row_at perm j) g.n) _ a in
      let d = both (row_fresh perm j) (pair_stands g perm j) b.1 in
      record { below = ltb-true _ _ b.0; fresh = not-true _ d.0; stands = d.1 }

  not-before : (i j : ℕ) → i < j → j < g.n → row_at perm j ≢ none → row_at perm i ≡ row_at perm j → ⊥
  not-before i j l h f e = not_taken perm j (row_at perm j) (fits_at j h f).fresh i l e

  module _ (few : g.n ≤ 4096) (w : Columns g.n g.col_ptr g.row_idx) where
    stand : (j : ℕ) → j < g.n → row_at perm j ≢ none → (k : ℕ) × (k < entries g) × (row_of g k ≡ row_at perm j) × (column_of g k ≡ j)
    stand j h f =
        let r = some_place (λ k. eqb (get_or g.row_idx k 0) (get_or perm j 0)) (end g j - start g j) (start g j) (fits_at j h f).stands in
        let c : InColumn g j r.0 = record { column = h; above = r.1; below = omega (arith, r.1, r.2) } in
        (r.0, in_entries g w j r.0 c, eqb-true _ _ r.3, column-is g w j r.0 c)

    once : (i j : ℕ) → i < g.n → j < g.n → row_at perm i ≢ none → row_at perm i ≡ row_at perm j → i ≡ j
    once i j h l f e = elim (ℕ_discrete i j) [
      | yes q ↦ q
      | no d ↦ elim (dec_lt i j) [
        | yes b ↦ absurd (not-before i j b l (λ z. f (e ∙ z)) e)
        | no b ↦ absurd (not-before j i (omega arith) h f (sym e))
      ]
    ]

    pub fits_good : Good (bipartite g) none (row_at perm)
    fits_good = record { outside = omega arith; stand = stand; once = once }

-- ---- a good pairing passes
module _ (g : Pattern) (perm : List ℕ) (w : Columns g.n g.col_ptr g.row_idx) (p : Good (bipartite g) none (row_at perm)) where
  fresh : (j : ℕ) → j < g.n → row_at perm j ≢ none → taken_before perm j (row_at perm j) ≡ false
  fresh j h f = none-some (λ c. eqb (get_or perm c 0) (get_or perm j 0)) j 0
      (λ i l. ne_eqb (get_or perm (0 + i) 0) (get_or perm j 0) (λ e. let q = p.once (0 + i) j (omega arith) h (λ z. f (sym e ∙ z)) e in let z : ⊥ =
      omega arith in z))

  stands : (j : ℕ) → j < g.n → row_at perm j ≢ none → pair_stands g perm j ≡ true
  stands j h f =
      let r = p.stand j h f in
      let c : InColumn g j r.0 = subst (λ (m : ℕ). InColumn g m r.0) r.3 (in_column_lem g w r.0 r.1) in
      some_found (λ m. eqb (get_or g.row_idx m 0) (get_or perm j 0)) (end g j - start g j) (start g j) r.0 c.above
      (omega (arith, c.above, c.below)) (eq-eqb _ _ r.2)

  fit : (j : ℕ) → j < g.n → pair_fits g perm j ≡ true
  fit j h = elim (ℕ_discrete (row_at perm j) none) [
    | yes e ↦ rw (eq-eqb (row_at perm j) none e) refl
    | no f ↦
        let r = p.stand j h f in
        let b : row_at perm j < g.n = omega (arith, r.2, (in_range_lem g w).rows r.0 r.1) in
        rw (ne_eqb (row_at perm j) none f, lt-ltb (row_at perm j) g.n b, fresh j h f, stands j h f) refl
  ]

  pub good_fits : pairs_fit g perm ≡ true
  unfolding pairs_fit
  good_fits = first_every (pair_fits g perm) g.n fit
