-- The definition of phase 3 step by step, as the code goes: one more place of a scan, or its end, by the tests there.
use mathlib.Core.Path.{◌≡◌, refl}
use mathlib.Core.Bool.{true, false, not, cond, ◌&&◌, ◌||◌}
use mathlib.Core.List.{List}
use Prim.Native.Nat.{ℕ, suc, ◌+◌, ◌-◌, ◌≤◌, ◌<◌}
use native.Mathlib.Numerals.{add-one}
use native.Mathlib.Omega.{arith}
use lib.Dec.{eqb, leb}
use lib.ListN.{get_or, set}
use lib.Ieee.{Float, nan, lt, le}
use Rattle.limits.specs.Limits.{none}
use Rattle.hungarian.specs.declared.HungarianStats.{HungarianStats}
use Rattle.sparse.specs.Pattern.{row_of, start, end}
use Rattle.hungarian.specs.Graph.{CostGraph}
use Rattle.hungarian.specs.Counts.{inner_step}
use Rattle.hungarian.specs.Init.{Improving, Best, Sought, reduced, free, pair, swap, best_of, seek, attempt, improve}

-- ---- seeking a free row for column jj
module _ (g : CostGraph) (u : List Float) (s : Improving) (c : HungarianStats) (jj kk : ℕ) where
  pub seek_more : kk < end g.pattern jj → (free s.pairs.iperm (row_of g.pattern kk) && le (reduced g u kk) (get_or s.least jj nan)) ≡ false
      → seek g u s c jj (end g.pattern jj - kk) kk ≡ seek g u s (inner_step c) jj (end g.pattern jj - (kk + 1)) (kk + 1)
  unfolding seek
  seek_more h t =
      let e : end g.pattern jj - kk ≡ suc (end g.pattern jj - (kk + 1)) = omega arith in
      rw (e, t, add-one kk) refl

  pub seek_hit : kk < end g.pattern jj → (free s.pairs.iperm (row_of g.pattern kk) && le (reduced g u kk) (get_or s.least jj nan)) ≡ true
      → seek g u s c jj (end g.pattern jj - kk) kk ≡ record { entry = kk; stats = inner_step c }
  unfolding seek
  seek_hit h t =
      let e : end g.pattern jj - kk ≡ suc (end g.pattern jj - (kk + 1)) = omega arith in
      rw (e, t) refl

  pub seek_none : end g.pattern jj ≤ kk → seek g u s c jj (end g.pattern jj - kk) kk ≡ record { entry = none; stats = c }
  unfolding seek
  seek_none h = let e : end g.pattern jj - kk ≡ 0 = omega arith in rw e refl

-- ---- trying a swap for column j at place k
-- what follows a search of column jj
abbrev pub settled : CostGraph → List Float → ℕ → Float → ℕ → ℕ → Improving → Sought → Improving
settled g u j v k jj s r =
    cond (eqb r.entry none)
    (attempt g u j v (end g.pattern j - (k + 1)) (k + 1)
    (record { pairs = s.pairs; least = s.least; from = set s.from jj (end g.pattern jj); stats = r.stats }))
    (record { pairs = swap g j k jj r.entry s.pairs; least = s.least; from = set (set s.from jj (r.entry + 1)) j (k + 1); stats = r.stats })

module _ (g : CostGraph) (u : List Float) (j : ℕ) (v : Float) (k : ℕ) (s : Improving) where
  pub attempt_skip : k < end g.pattern j → (lt v (reduced g u k) || free s.pairs.iperm (row_of g.pattern k)) ≡ true
      → attempt g u j v (end g.pattern j - k) k s ≡ attempt g u j v (end g.pattern j - (k + 1)) (k + 1) s
  unfolding attempt
  attempt_skip h t =
      let e : end g.pattern j - k ≡ suc (end g.pattern j - (k + 1)) = omega arith in
      rw (e, t, add-one k) refl

  pub attempt_seek : (jj f : ℕ) → get_or s.pairs.iperm (row_of g.pattern k) 0 ≡ jj → get_or s.from jj 0 ≡ f → k < end g.pattern j
      → (lt v (reduced g u k) || free s.pairs.iperm (row_of g.pattern k)) ≡ false
      → attempt g u j v (end g.pattern j - k) k s ≡ settled g u j v k jj s (seek g u s s.stats jj (end g.pattern jj - f) f)
  unfolding attempt
  attempt_seek jj f q p h t =
      let e : end g.pattern j - k ≡ suc (end g.pattern j - (k + 1)) = omega arith in
      rw (e, t, q, p, add-one k) refl

  pub attempt_none : end g.pattern j ≤ k → attempt g u j v (end g.pattern j - k) k s ≡ s
  unfolding attempt
  attempt_none h = let e : end g.pattern j - k ≡ 0 = omega arith in rw e refl

-- ---- one column
module _ (g : CostGraph) (u : List Float) (j : ℕ) (s : Improving) where
  pub improve_skip : (not (eqb (get_or s.pairs.jperm j 0) none) || leb (end g.pattern j) (start g.pattern j)) ≡ true → improve g u j s ≡ s
  unfolding improve
  improve_skip t = rw t refl

  module _ (b : Best) (q : b ≡ best_of g u s.pairs.iperm j)
      (t : (not (eqb (get_or s.pairs.jperm j 0) none) || leb (end g.pattern j) (start g.pattern j)) ≡ false) where
    pub improve_take : free s.pairs.iperm b.row ≡ true → improve g u j s ≡ record {
      pairs = pair b.row j b.place s.pairs;
      least =
          set s.least j b.value;
      from = set s.from j (b.place + 1);
      stats = s.stats;
    }
    unfolding improve
    improve_take f = rw (← q, t, f) refl

    pub improve_try : free s.pairs.iperm b.row ≡ false → improve g u j s ≡ attempt g u j b.value (end g.pattern j - b.place) b.place
        (record { pairs = s.pairs; least = set s.least j b.value; from = s.from; stats = s.stats })
    unfolding improve
    improve_try f = rw (← q, t, f) refl
