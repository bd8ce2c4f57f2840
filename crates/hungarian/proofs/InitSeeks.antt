-- The two scans of phase 3: the best entry of a column is its least by cost minus u, and seeking a swap ends at the first free row that fits, or at
-- the column's end, with a count for each place.
use mathlib.Core.Path.{◌≡◌, refl, sym, ap, ◌∙◌}
use mathlib.Core.Logic.{◌⊎◌, inl, inr}
use mathlib.Core.Bool.{Bool, true, false, not, cond, ◌&&◌, ◌||◌}
use mathlib.Core.List.{List}
use Prim.Native.Nat.{ℕ, zero, suc, ◌+◌, ◌-◌, ◌≤◌, ◌<◌}
use native.Mathlib.Nat.{le_refl, le_trans, le_of_eq, le_of_lt}
use native.Mathlib.Omega.{arith}
use borrow.Author.Tests.{ltb-true, ltb-false, eqb-true}
use lib.Ieee.{Float, lt, le, eq, ne}
use Rattle.limits.specs.Limits.{none}
use Rattle.float64.specs.inner.Keys.{Ordered, position}
use Rattle.float64.specs.Constants.{rinf}
use Rattle.float64.proofs.Order.{lt_key, eq_key}
use Rattle.float64.proofs.WholeNumbers.{ordered}
use Rattle.hungarian.specs.declared.HungarianStats.{HungarianStats}
use Rattle.sparse.specs.Pattern.{row_of, start, end, entries, InColumn}
use Rattle.hungarian.specs.Graph.{CostGraph, cost_of}
use Rattle.hungarian.specs.Counts.{counts, inner_step}
use Rattle.hungarian.specs.Init.{Improving, Best, Sought, reduced, free, better, best_of, seek}
use Rattle.hungarian.specs.inner.Setting.{Setting}
use Rattle.hungarian.specs.inner.Bounds.{Cost, Distance}
use Rattle.hungarian.specs.inner.Between.{at, dual}
use Rattle.hungarian.proofs.Loops.{each_keeps}
use Rattle.hungarian.proofs.Distances.{distance}
use Rattle.sparse.proofs.Columns.{in_entries}
use Rattle.slices.proofs.Bools.{both}
use Rattle.hungarian.proofs.InitLaws.{one_more}
use Rattle.hungarian.proofs.InitCosts.{cost_of_lem, cost_small, cost_dual}

-- the best entry of column j among those before `to`
pub record BestBefore (g : CostGraph) (u : List Float) (j to : ℕ) (b : Best) : Type 0 where
  pub place : InColumn g.pattern j b.place
  pub row : b.row ≡ row_of g.pattern b.place
  pub value : b.value ≡ reduced g u b.place
  pub least : (l : ℕ) → l < to → start g.pattern j ≤ l → position b.value ≤ position (reduced g u l)

-- the counts after x inner steps
abbrev pub inner : ℕ → HungarianStats
inner x = counts 0 0 0 x 0 0 0

-- m places were searched in vain
pub record Missed (x m : ℕ) (r : Sought) : Type 0 where
  pub entry : r.entry ≡ none
  pub stats : r.stats ≡ inner (x + m)

-- the search of column jj from place k on, before `to`, found an entry: its row is free and its value at most the column's
pub record Hit (g : CostGraph) (u : List Float) (s : Improving) (jj x k to : ℕ) (r : Sought) : Type 0 where
  pub above : k ≤ r.entry
  pub below : r.entry < to
  pub row : at s.pairs.iperm (row_of g.pattern r.entry) ≡ none
  pub fits : le (reduced g u r.entry) (dual s.least jj) ≡ true
  pub stats : r.stats ≡ inner (x + (r.entry + 1 - k))

pub seek_ends : (g : CostGraph) (u : List Float) (s : Improving) (c : HungarianStats) (jj m k x : ℕ) → c ≡ inner x → Missed x m (seek g u s c jj m k)
    ⊎ Hit g u s jj x k (k + m) (seek g u s c jj m k)
unfolding seek
seek_ends g u s c jj zero k x e = inl (record { entry = refl; stats = e ∙ ap inner (let q : x ≡ x + 0 = omega arith in q) })
seek_ends g u s c jj (suc m) k x e = go (free s.pairs.iperm (row_of g.pattern k) && le (reduced g u k) (dual s.least jj)) refl
    (seek_ends g u s (inner_step c) jj m (suc k) (x + 1) (ap inner_step e))
  where
    rest : Sought
    rest = seek g u s (inner_step c) jj m (suc k)

    go : (b : Bool) → (free s.pairs.iperm (row_of g.pattern k) && le (reduced g u k) (dual s.least jj)) ≡ b → Missed (x + 1) m rest
        ⊎ Hit g u s jj (x + 1) (suc k) (suc k + m) rest
        → Missed x (suc m) (cond b (record { entry = k; stats = inner_step c }) rest) ⊎ Hit g u s jj x k (k + suc m)
        (cond b (record { entry = k; stats = inner_step c }) rest)
    go true f r =
        let t = both (free s.pairs.iperm (row_of g.pattern k)) (le (reduced g u k) (dual s.least jj)) f in
        inr (record {
          above = le_refl k;
          below = omega arith;
          row = eqb-true (at s.pairs.iperm (row_of g.pattern k)) none t.0;
          fits = t.1;
          stats = ap inner_step e ∙ ap inner (let q : x + 1 ≡ x + (k + 1 - k) = omega arith in q);
        })
    go false f (inl r) = inl (record { entry = r.entry; stats = r.stats ∙ ap inner (let q : x + 1 + m ≡ x + suc m = omega arith in q) })
    go false f (inr r) = inr (record {
      above = omega (arith, r.above);
      below = omega (arith, r.below);
      row = r.row;
      fits = r.fits;
      stats = r.stats ∙ ap inner (let q : x + 1 + (rest.entry + 1 - suc k) ≡ x + (rest.entry + 1 - k) = omega (arith, r.above) in q);
    })

module _ {Good : Float → Type 0} {err C : ℕ} {g : CostGraph} (S : Setting Good err C g) (u : List Float)
    (duals : (k : ℕ) → k < entries g.pattern → Cost Good C (dual u (row_of g.pattern k))) where
  -- cost minus u of an entry, as a number
  pub value : {j k : ℕ} → InColumn g.pattern j k → Distance Good err (cost_of g k) (dual u (row_of g.pattern k)) (reduced g u k)
  value {j} {k} c =
      let h = in_entries g.pattern S.columns j k c in
      distance S (omega (arith, c.column)) 1 (cost_of g k) (dual u (row_of g.pattern k)) (omega arith) (cost_small S (cost_of g k) (cost_of_lem S k h))
      (cost_dual S (dual u (row_of g.pattern k)) (duals k h))

  pub value_ordered : {j k : ℕ} → InColumn g.pattern j k → Ordered (reduced g u k)
  value_ordered {j} {k} c = ordered (reduced g u k) (S.laws.number (reduced g u k) (value c).good)

  better_keeps : (iperm : List ℕ) (j k : ℕ) (b : Best) → InColumn g.pattern j k → BestBefore g u j k b → BestBefore g u j (suc k) (better g u iperm k b)
  unfolding better
  better_keeps iperm j k b c m = go (lt b.value v) refl
    where
      v : Float
      v = reduced g u k

      here : Best
      here = record { value = v; row = row_of g.pattern k; place = k }

      bv : Ordered b.value
      bv = rw m.value (value_ordered m.place)

      equal : Bool
      equal = eq v b.value && ne v rinf && (not (free iperm (row_of g.pattern k)) || free iperm b.row)

      stays : position b.value ≤ position v → BestBefore g u j (suc k) b
      stays h = record {
        place = m.place;
        row = m.row;
        value = m.value;
        least =
            one_more (λ l. start g.pattern j ≤ l → position b.value ≤ position (reduced g u l)) k m.least (λ a. h);
      }

      tie : (t : Bool) → equal ≡ t → position v ≤ position b.value → BestBefore g u j (suc k) (cond t b here)
      tie true e h =
          let q : eq v b.value ≡ true =
          (both (eq v b.value) (ne v rinf) (both (eq v b.value && ne v rinf) (not (free iperm (row_of g.pattern k)) || free iperm b.row) e).0).0 in
          stays (le_of_eq (sym (eqb-true (position v) (position b.value) (sym (eq_key v b.value (value_ordered c) bv) ∙ q))))
      tie false e h = record {
        place = c;
        row = refl;
        value = refl;
        least =
            one_more (λ l. start g.pattern j ≤ l → position v ≤ position (reduced g u l)) k (λ l a d. le_trans h (m.least l a d))
            (λ a. le_refl (position v));
      }

      go : (t : Bool) → lt b.value v ≡ t → BestBefore g u j (suc k) (cond t b (cond equal b here))
      go true e = stays (le_of_lt (ltb-true (position b.value) (position v) (sym (lt_key b.value v bv (value_ordered c)) ∙ e)))
      go false e = tie equal refl (ltb-false (position b.value) (position v) (sym (lt_key b.value v bv (value_ordered c)) ∙ e))

  pub best : (iperm : List ℕ) (j : ℕ) → j < g.pattern.n → start g.pattern j < end g.pattern j
      → BestBefore g u j (end g.pattern j) (best_of g u iperm j)
  unfolding best_of
  best iperm j h r =
      let k = start g.pattern j in
      let c : InColumn g.pattern j k = record { column = h; above = le_refl k; below = r } in
      let first : Best = record { value = reduced g u k; row = row_of g.pattern k; place = k } in
      each_keeps (BestBefore g u j) (better g u iperm) (k + 1) (end g.pattern j) first (omega arith)
      (λ l b a d m. better_keeps iperm j l b (record { column = h; above = omega arith; below = d }) m)
      (record { place = c; row = refl; value = refl; least = λ l a d. le_of_eq (ap (λ (x : ℕ). position (reduced g u x)) (let q : k ≡ l = omega arith in q)) })
