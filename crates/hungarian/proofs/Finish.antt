-- The finished match: perm, u and v place by place, from the last pairs and row duals. A column's row is that of its entry. Where sums are exact, u +
-- v is at most the cost on every entry, and equal to it on ours, and the duals are within 2 n times the cost limit.
use mathlib.Core.Path.{◌≡◌, refl, sym, ap, ◌∙◌, subst}
use mathlib.Core.Logic.{◌≢◌, ◌⊎◌, inl, inr}
use mathlib.Core.Bool.{Bool, cond}
use mathlib.Core.List.{List, [], ◌∷◌}
use Prim.Native.Nat.{ℕ, zero, suc, ◌+◌, ◌*◌, ◌≤◌, ◌<◌}
use native.Mathlib.Nat.{le_of_suc-le-suc, not-suc-le-zero, mul_assoc}
use native.Mathlib.Decide.{ℕ_discrete}
use native.Mathlib.Omega.{arith}
use borrow.Author.Tests.{eq-eqb, ne_eqb}
use lib.Dec.{T, eqb}
use lib.ListN.{length}
use lib.Ieee.{Float}
use Rattle.limits.specs.Limits.{none}
use Rattle.float64.specs.Number.{origin, units_per_one}
use Rattle.float64.specs.inner.Keys.{position}
use Rattle.float64.specs.inner.Arithmetic.{Apart}
use Rattle.float64.specs.Constants.{zero as fzero}
use Rattle.matching.specs.Pairing.{RowsOf, paired_entries, matched_count}
use Rattle.matching.proofs.Pairings.{same_by_row, held_entry, count_most, count_by_row}
use Rattle.sparse.specs.Pattern.{bipartite, row_of, column_of, entries, InColumn}
use Rattle.hungarian.specs.Graph.{CostGraph, cost_of}
use Rattle.hungarian.specs.Init.{Pairs, reduced}
use Rattle.hungarian.specs.Match.{perm_of, column_duals, row_duals}
use Rattle.hungarian.specs.Optimal.{IsEntry}
use Rattle.hungarian.specs.inner.Setting.{Setting}
use Rattle.hungarian.specs.inner.Bounds.{level, Small, Distance}
use Rattle.hungarian.specs.inner.Between.{at, dual, Matched, Bounded, Tight, Floored}
use Rattle.hungarian.proofs.Bounds.{level_step, once_at_least}
use Rattle.hungarian.proofs.Distances.{distance}
use Rattle.sparse.proofs.Columns.{in_column_lem, in_range_lem, in_entries, simple, row_below}
use Rattle.hungarian.proofs.InitCosts.{zero_key}

-- ---- place by place
perm_length : (g : CostGraph) (l : List ℕ) → length (perm_of g l) ≡ length l
unfolding perm_of
perm_length g [] = refl
perm_length g (k ∷ l) = ap suc (perm_length g l)

-- a free column has no row, another that of its entry
perm_free : (g : CostGraph) (l : List ℕ) (j : ℕ) → j < length l → at l j ≡ none → at (perm_of g l) j ≡ none
unfolding perm_of
perm_free g [] j h f = absurd (not-suc-le-zero h)
perm_free g (k ∷ l) zero h f = rw (eq-eqb k none f) refl
perm_free g (k ∷ l) (suc j) h f = perm_free g l j (le_of_suc-le-suc h) f

perm_taken : (g : CostGraph) (l : List ℕ) (j : ℕ) → j < length l → at l j ≢ none → at (perm_of g l) j ≡ row_of g.pattern (at l j)
unfolding perm_of
perm_taken g [] j h f = absurd (not-suc-le-zero h)
perm_taken g (k ∷ l) zero h f = rw (ne_eqb k none f) refl
perm_taken g (k ∷ l) (suc j) h f = perm_taken g l j (le_of_suc-le-suc h) f

column_dual_at : (g : CostGraph) (u : List Float) (l : List ℕ) (j : ℕ) → j < length l → dual (column_duals g u l) j ≡ cond (eqb (at l j) none) fzero
    (reduced g u (at l j))
unfolding column_duals
column_dual_at g u [] j h = absurd (not-suc-le-zero h)
column_dual_at g u (k ∷ l) zero h = refl
column_dual_at g u (k ∷ l) (suc j) h = column_dual_at g u l j (le_of_suc-le-suc h)

row_dual_at : (l : List ℕ) (u : List Float) (i : ℕ) → i < length l → i < length u → dual (row_duals l u) i ≡ cond (eqb (at l i) none) fzero (dual u i)
unfolding row_duals
row_dual_at [] u i h k = absurd (not-suc-le-zero h)
row_dual_at (j ∷ l) [] i h k = absurd (not-suc-le-zero k)
row_dual_at (j ∷ l) (x ∷ u) zero h k = refl
row_dual_at (j ∷ l) (x ∷ u) (suc i) h k = row_dual_at l u i (le_of_suc-le-suc h) (le_of_suc-le-suc k)

-- no more are matched than there are columns
pub count_range : {g : CostGraph} {s : Pairs} → Matched g s → s.num ≤ g.pattern.n
count_range {g} {s} M = rw M.counted (count_most none g.pattern.n (at s.jperm))

module _ {Good : Float → Type 0} {err C : ℕ} {g : CostGraph} {s : Pairs} {u : List Float} (S : Setting Good err C g) (M : Matched g s)
    (B : Bounded Good C g s u) where
  abbrev pub perm : List ℕ
  perm = perm_of g s.jperm

  abbrev pub rows : List Float
  rows = row_duals s.iperm u

  abbrev pub columns : List Float
  columns = column_duals g u s.jperm

  in_jperm : (j : ℕ) → j < g.pattern.n → j < length s.jperm
  in_jperm j h = omega (arith, M.column_count)

  pub rows_of : RowsOf (bipartite g.pattern) none (at s.jperm) (at perm)
  rows_of = record {
    free = λ j h f. perm_free g s.jperm j (in_jperm j h) f;
    taken = λ j h f. perm_taken g s.jperm j (in_jperm j h) f;
  }

  column_free : (j : ℕ) → j < g.pattern.n → at s.jperm j ≡ none → dual columns j ≡ fzero
  column_free j h f = column_dual_at g u s.jperm j (in_jperm j h) ∙ rw (eq-eqb (at s.jperm j) none f) refl

  column_taken : (j : ℕ) → j < g.pattern.n → at s.jperm j ≢ none → dual columns j ≡ reduced g u (at s.jperm j)
  column_taken j h f = column_dual_at g u s.jperm j (in_jperm j h) ∙ rw (ne_eqb (at s.jperm j) none f) refl

  row_free : (i : ℕ) → i < g.pattern.n → at s.iperm i ≡ none → dual rows i ≡ fzero
  row_free i h f = row_dual_at s.iperm u i (omega (arith, M.row_count)) (omega (arith, B.dual_count)) ∙ rw (eq-eqb (at s.iperm i) none f) refl

  row_taken : (i : ℕ) → i < g.pattern.n → at s.iperm i ≢ none → dual rows i ≡ dual u i
  row_taken i h f = row_dual_at s.iperm u i (omega (arith, M.row_count)) (omega (arith, B.dual_count)) ∙ rw (ne_eqb (at s.iperm i) none f) refl

  -- the entry of a matched column
  own : (j : ℕ) → j < g.pattern.n → at s.jperm j ≢ none → InColumn g.pattern j (at s.jperm j)
  own j h f = let o = M.paired.columns j h f in
      subst (λ (i : ℕ). InColumn g.pattern i (at s.jperm j)) o.column (in_column_lem g.pattern S.columns (at s.jperm j) o.entry)

  cost_small : (j k : ℕ) → InColumn g.pattern j k → Small Good (level C 1) (cost_of g k)
  cost_small j k c =
      let h = in_entries g.pattern S.columns j k c in
      let e = level_step C 0 in
      record { good = S.good k h; size = record { above = omega (arith, S.high k h); under = omega (arith, S.low k h) } }

  reduced_at : (j k : ℕ) → InColumn g.pattern j k → Distance Good err (cost_of g k) (dual u (row_of g.pattern k)) (reduced g u k)
  reduced_at j k c = distance S (omega (arith, c.column)) 1 (cost_of g k) (dual u (row_of g.pattern k)) (omega arith) (cost_small j k c)
      (B.small (row_of g.pattern k) (row_below g.pattern S.columns j k c))

  pub rows_good : (i : ℕ) → i < g.pattern.n → Good (dual rows i)
  rows_good i h = go (ℕ_discrete (at s.iperm i) none)
    where
      go : Dec (at s.iperm i ≡ none) → Good (dual rows i)
      go (yes f) = rw (row_free i h f) S.zero_good
      go (no f) = rw (row_taken i h f) (B.small i h).good

  pub columns_good : (j : ℕ) → j < g.pattern.n → Good (dual columns j)
  columns_good j h = go (ℕ_discrete (at s.jperm j) none)
    where
      go : Dec (at s.jperm j ≡ none) → Good (dual columns j)
      go (yes f) = rw (column_free j h f) S.zero_good
      go (no f) = rw (column_taken j h f) (reduced_at j (at s.jperm j) (own j h f)).good

  -- a column has no row or one below n
  pub perm_range : (j : ℕ) → j < g.pattern.n → (at perm j ≡ none) ⊎ (at perm j < g.pattern.n)
  perm_range j h = go (ℕ_discrete (at s.jperm j) none)
    where
      go : Dec (at s.jperm j ≡ none) → (at perm j ≡ none) ⊎ (at perm j < g.pattern.n)
      go (yes f) = inl (rows_of.free j h f)
      go (no f) = inr (rw (rows_of.taken j h f) (row_below g.pattern S.columns j (at s.jperm j) (own j h f)))

  pub perm_places : length perm ≡ g.pattern.n
  perm_places = perm_length g s.jperm ∙ M.column_count

  -- a column's row is that of its entry
  pub perm_entry : (j : ℕ) → j < g.pattern.n → at perm j ≢ none → IsEntry g.pattern (at perm j) j
  perm_entry j h p = go (ℕ_discrete (at s.jperm j) none)
    where
      go : Dec (at s.jperm j ≡ none) → IsEntry g.pattern (at perm j) j
      go (yes f) = absurd (p (rows_of.free j h f))
      go (no f) = let o = M.paired.columns j h f in
          record { entry = at s.jperm j; within = o.entry; row = sym (rows_of.taken j h f); column = o.column }

  pub perm_count_lem : s.num ≡ matched_count none g.pattern.n (at perm)
  perm_count_lem = M.counted ∙ sym (count_by_row (in_range_lem g.pattern S.columns) M.paired rows_of)

  -- ---- exact sums
  module _ (e : err ≡ 0) (D : Tight g s u) where
    row_most : (i : ℕ) → i < g.pattern.n → position (dual rows i) ≤ position (dual u i)
    row_most i h = go (ℕ_discrete (at s.iperm i) none)
      where
        go : Dec (at s.iperm i ≡ none) → position (dual rows i) ≤ position (dual u i)
        go (yes f) = rw (row_free i h f) (omega (arith, zero_key, (B.free i h f).low))
        go (no f) = rw (row_taken i h f) (omega arith)

    -- a matched column's dual is its entry's cost minus u
    column_exact : (j : ℕ) (h : j < g.pattern.n) (f : at s.jperm j ≢ none) → position (dual columns j) + position
        (dual u (row_of g.pattern (at s.jperm j))) ≡ position
        (cost_of g (at s.jperm j)) + origin
    column_exact j h f = rw (column_taken j h f) (let n = (reduced_at j (at s.jperm j) (own j h f)).near in omega (arith, n.above, n.under))

    -- no dual of a matched row is above its entry's cost
    taken_below : (i : ℕ) → i < g.pattern.n → at s.iperm i ≢ none → position (dual u i) ≤ origin + C * units_per_one
    taken_below i h f =
        let o = M.paired.rows i h f in
        let k = at s.jperm (at s.iperm i) in
        let l = (M.paired.columns (at s.iperm i) o.range o.taken).entry in
        subst (λ (q : ℕ). position (dual u q) ≤ origin + C * units_per_one) o.back (omega (arith, D.below k l, S.high k l))

    -- the duals are at most 2 n times the cost limit, if none is far below zero
    module _ (L : Floored C g u) where
      limit : (i : ℕ) → i < g.pattern.n → (C * units_per_one ≤ g.pattern.n * (C * units_per_one)) ×
          (2 * (g.pattern.n * C) * units_per_one ≡ 2 * (g.pattern.n * (C * units_per_one)))
      limit i h = (
        once_at_least g.pattern.n (C * units_per_one) (omega arith),
        mul_assoc 2 (g.pattern.n * C) units_per_one ∙ ap (λ (x : ℕ). 2 * x)
            (mul_assoc g.pattern.n C units_per_one),
      )

      pub rows_within : (i : ℕ) → i < g.pattern.n → Apart (2 * (g.pattern.n * C) * units_per_one) (position (dual rows i)) origin
      rows_within i h = go (ℕ_discrete (at s.iperm i) none)
        where
          go : Dec (at s.iperm i ≡ none) → Apart (2 * (g.pattern.n * C) * units_per_one) (position (dual rows i)) origin
          go (yes f) = rw (row_free i h f) (record { above = omega (arith, zero_key); under = omega (arith, zero_key) })
          go (no f) = let l = limit i h in
              rw (row_taken i h f) (record { above = omega (arith, l.0, l.1, taken_below i h f); under = omega (arith, l.1, L.low i h) })

      pub columns_within : (j : ℕ) → j < g.pattern.n → Apart (2 * (g.pattern.n * C) * units_per_one) (position (dual columns j)) origin
      columns_within j h = go (ℕ_discrete (at s.jperm j) none)
        where
          go : Dec (at s.jperm j ≡ none) → Apart (2 * (g.pattern.n * C) * units_per_one) (position (dual columns j)) origin
          go (yes f) = rw (column_free j h f) (record { above = omega (arith, zero_key); under = omega (arith, zero_key) })
          go (no f) =
              let k = at s.jperm j in
              let e = in_entries g.pattern S.columns j k (own j h f) in
              let l = limit j h in
              record {
                above = omega (
                  arith,
                  l.1,
                  column_exact j h f,
                  S.high k e,
                  L.low (row_of g.pattern k)
                      (row_below g.pattern S.columns j k (own j h f)),
                );
                under = omega (arith, column_exact j h f, D.below k e);
              }

    pub keys_feasible : (k : ℕ) → k < entries g.pattern → position (dual rows (row_of g.pattern k)) + position (dual columns (column_of g.pattern k))
        ≤ position (cost_of g k) + origin
    keys_feasible k h = go (ℕ_discrete (at s.jperm (column_of g.pattern k)) none)
      where
        w : InColumn g.pattern (column_of g.pattern k) k
        w = in_column_lem g.pattern S.columns k h

        go : Dec (at s.jperm (column_of g.pattern k) ≡ none) → position (dual rows (row_of g.pattern k)) + position
            (dual columns (column_of g.pattern k)) ≤ position (cost_of g k) + origin
        go (yes f) = rw (column_free (column_of g.pattern k) w.column f)
            (omega (arith, zero_key, row_most (row_of g.pattern k) (row_below g.pattern S.columns (column_of g.pattern k) k w), D.below k h))
        go (no f) = omega (
          arith,
          column_exact (column_of g.pattern k) w.column f,
          row_most (row_of g.pattern k) (row_below g.pattern S.columns (column_of g.pattern k) k w),
          D.least (column_of g.pattern k) k w f,
        )

    pub keys_tight : (k : ℕ) → k < entries g.pattern → T (paired_entries (bipartite g.pattern) (at perm) k)
        → position (dual rows (row_of g.pattern k)) + position
        (dual columns (column_of g.pattern k)) ≡ position (cost_of g k) + origin
    keys_tight k h z =
        let w = in_column_lem g.pattern S.columns k h in
        let a = held_entry (bipartite g.pattern) (at s.jperm) k
        (subst (λ (b : Bool). T b) (sym (same_by_row (in_range_lem g.pattern S.columns) M.paired rows_of (simple g.pattern S.columns) k h)) z) in
        let f : at s.jperm (column_of g.pattern k) ≢ none = λ y. (let q = sym a ∙ y in omega (arith, S.few_entries)) in
        let o = M.paired.columns (column_of g.pattern k) w.column f in
        let x = column_exact (column_of g.pattern k) w.column f in
        let r : at s.iperm (row_of g.pattern k) ≢ none =
        λ y. (let q : column_of g.pattern k ≡ none = sym (ap (λ (i : ℕ). at s.iperm (row_of g.pattern i)) (sym a) ∙ o.back) ∙ y in
        omega (arith, S.few_columns, w.column)) in
        rw (row_taken (row_of g.pattern k) (row_below g.pattern S.columns (column_of g.pattern k) k w) r) (let y = rw a at x in omega arith)
