-- Phase 1: the memory is cleared, and each entry of a column that is at most its row's dual replaces it. By the regions that the stores change.
use mathlib.Core.Path.{◌≡◌, refl, sym, ◌∙◌}
use mathlib.Core.Logic.{inl, inr}
use mathlib.Core.Bool.{Bool, true, false, cond, ◌&&◌, ◌||◌, false≢true}
use mathlib.Core.List.{List, [], ◌++◌}
use Prim.Native.Nat.{ℕ, ◌+◌, ◌*◌, ◌≤◌, ◌<◌}
use native.Mathlib.Omega.{arith}
use lib.Dec.{T, eqb, eqb_refl}
use lib.ListN.{length, get_or, take, drop, set, replicate, length-set}
use lib.Seq.{set-get_or, length-take-le}
use lib.Ieee.{Float, nan, inf, fin, le, lt, eq, level, below, up, down}
use Rattle.limits.specs.Limits.{none}
use Rattle.float64.specs.Constants.{rinf}
use Rattle.hungarian.specs.Loop.{each}
use Rattle.sparse.specs.Pattern.{row_of, start, end}
use Rattle.hungarian.specs.Graph.{CostGraph, cost_of}
use Rattle.hungarian.specs.Init.{lower, phase1}
use Rattle.hungarian.specs.inner.Layout.{region, iperm_at, jperm_at, least_at}
use Rattle.hungarian.proofs.Regions.{region_filled}
use Rattle.hungarian_claim.specs.inner.Memory.{minima_of, Ready}
use Rattle.hungarian_claim.specs.inner.Steps.{Cleared, Lowered, Minimal}
use Rattle.hungarian_claim.proofs.Words.{each_more, each_none, stop, stop_is, entry_in, store, apart}

-- ---- the first three regions are one part of the slice, with one value
pub cleared : (n : ℕ) (u u' : List Float) (w x : List ℕ) → length u ≡ n → length w ≡ 12 * n + 1 → u' ≡ replicate (length u) rinf
    → x ≡ replicate (length (take (3 * n) w)) none → Cleared n u' (x ++ drop (3 * n) w)
cleared n u u' w x a l duals words = record { minima = rw (e, d, one 0 (omega arith), one 2 (omega arith)) refl; entries = rw e (one 1 (omega arith)) }
  where
    d : u' ≡ replicate n rinf
    d = rw a at duals

    e : x ≡ replicate (3 * n) none
    e = rw (length-take-le (3 * n) w (omega arith)) at words

    one : (r : ℕ) → r * n + n ≤ 3 * n → region r n (replicate (3 * n) none ++ drop (3 * n) w) ≡ replicate n none
    one r h = region_filled r n [] (drop (3 * n) w) (3 * n) none (omega arith) (omega arith)

-- ---- column j, from entry k on
-- what is at most another number is no NaN, and so at most itself
at_most_itself : (x y : Float) → le x y ≡ true → le x x ≡ true
unfolding le lt eq
at_most_itself nan y t = absurd (false≢true t)
at_most_itself (inf true) y t = refl
at_most_itself (inf false) y t = refl
at_most_itself (fin s m e) y t = or_level (below s a s a) s
  where
    a : ℕ
    a = m * up e * down e

    equal : (b : Bool) → T b → (b && true) ≡ true
    equal true t = refl
    equal false t = elim t [ ]

    or_level : (b s : Bool) → (b || level s a s a) ≡ true
    or_level true s = refl
    or_level false true = equal (eqb a a) (eqb_refl a)
    or_level false false = equal (eqb a a) (eqb_refl a)

pub record Lowering (g : CostGraph) (j : ℕ) (u₀ : List Float) (w₀ : List ℕ) (u : List Float) (w : List ℕ) (k : ℕ) : Type 0 where
  pub within : k ≤ stop g j
  pub duals : length u ≡ g.pattern.n
  pub words : length w ≡ 12 * g.pattern.n + 1
  pub entries : region jperm_at g.pattern.n w ≡ region jperm_at g.pattern.n w₀
  pub run : each k (end g.pattern j) (lower g j) (minima_of g.pattern.n u w) ≡ each (start g.pattern j) (end g.pattern j) (lower g j)
      (minima_of g.pattern.n u₀ w₀)

module _ {g : CostGraph} {j : ℕ} {u₀ : List Float} {w₀ : List ℕ} (ready : Ready g u₀ w₀) (h : j < g.pattern.n) where
  module _ {u : List Float} {w : List ℕ} {k : ℕ} (s : Lowering g j u₀ w₀ u w k) where
    lowering_takes : k < stop g j → le (cost_of g k) (get_or u (row_of g.pattern k) nan) ≡ true → Lowering g j u₀ w₀ (set u (row_of g.pattern k) (cost_of g k))
        (set (set w (row_of g.pattern k) j) (2 * g.pattern.n + row_of g.pattern k) k) (k + 1)
    unfolding lower
    lowering_takes b t =
        let n = g.pattern.n in
        let i = row_of g.pattern k in
        let l : i < n = (entry_in g j k ready.sound h b).1 in
        let a : List ℕ = set w i j in
        let rows : region iperm_at n (set a (2 * n + i) k) ≡ set (region iperm_at n w) i j =
        apart least_at n a (2 * n + i) i (omega arith) l iperm_at k (inl (omega arith)) ∙ store iperm_at n w i i (omega arith) l j in
        let least : region least_at n (set a (2 * n + i) k) ≡ set (region least_at n w) i k =
        store least_at n a (2 * n + i) i (omega arith) l k ∙ rw (apart iperm_at n w i i (omega arith) l least_at j (inr (omega arith))) refl in
        let step : lower g j k (minima_of n u w) ≡ minima_of n (set u i (cost_of g k)) (set a (2 * n + i) k) = rw (rows, least, t) refl in
        record {
          within = omega arith;
          duals = simp length-set s.duals;
          words = simp length-set s.words;
          entries = apart least_at n a (2 * n + i) i (omega arith) l jperm_at k (inl (omega arith)) ∙ apart iperm_at n w i i (omega arith) l jperm_at j
              (inr (omega arith)) ∙ s.entries;
          run = rw (← step, ← each_more (lower g j) k (end g.pattern j) (minima_of n u w) (rw (stop_is g j) at b)) s.run;
        }

    lowering_keeps : k < stop g j → le (cost_of g k) (get_or u (row_of g.pattern k) nan) ≡ false → Lowering g j u₀ w₀ u w (k + 1)
    unfolding lower
    lowering_keeps b t =
        let step : lower g j k (minima_of g.pattern.n u w) ≡ minima_of g.pattern.n u w = rw t refl in
        let more = each_more (lower g j) k (end g.pattern j) (minima_of g.pattern.n u w) (rw (stop_is g j) at b) in
        record { within = omega arith; duals = s.duals; words = s.words; entries = s.entries; run = rw step at (sym more) ∙ s.run }

    -- an entry that writes always: what it takes, or what was there
    pub lowering_turn : k < stop g j → (z : Float) (x y : ℕ) → z ≡ cond (le (cost_of g k) (get_or u (row_of g.pattern k) nan)) (cost_of g k)
        (get_or u (row_of g.pattern k) nan)
        → x ≡ cond (le (cost_of g k) z) j (get_or w (row_of g.pattern k) 0) → y ≡ cond (le (cost_of g k) z) k
        (get_or w (2 * g.pattern.n + row_of g.pattern k) 0)
        → Lowering g j u₀ w₀ (set u (row_of g.pattern k) z) (set (set w (row_of g.pattern k) x) (2 * g.pattern.n + row_of g.pattern k) y) (k + 1)
    lowering_turn b z x y lowest column entry = go (le (cost_of g k) (get_or u (row_of g.pattern k) nan)) refl
      where
        go : (taken : Bool) → le (cost_of g k) (get_or u (row_of g.pattern k) nan) ≡ taken
            → Lowering g j u₀ w₀ (set u (row_of g.pattern k) z) (set (set w (row_of g.pattern k) x) (2 * g.pattern.n + row_of g.pattern k) y) (k + 1)
        go true t =
            let least : z ≡ cost_of g k = rw t at lowest in
            let same : le (cost_of g k) z ≡ true = rw least (at_most_itself (cost_of g k) (get_or u (row_of g.pattern k) nan) t) in
            let rows : x ≡ j = rw same at column in
            let places : y ≡ k = rw same at entry in
            rw (least, rows, places) (lowering_takes b t)
        go false t =
            let kept : z ≡ get_or u (row_of g.pattern k) nan = rw t at lowest in
            let same : le (cost_of g k) z ≡ false = rw kept t in
            let rows : x ≡ get_or w (row_of g.pattern k) 0 = rw same at column in
            let places : y ≡ get_or w (2 * g.pattern.n + row_of g.pattern k) 0 = rw same at entry in
            rw (
              kept,
              rows,
              places,
              set-get_or u (row_of g.pattern k) nan,
              set-get_or w (row_of g.pattern k) 0,
              set-get_or w
                  (2 * g.pattern.n + row_of g.pattern k) 0,
            ) (lowering_keeps b t)

    pub lowering_end : stop g j ≤ k → Lowered g j u₀ w₀ u w
    lowering_end b = record {
      minima = sym (each_none (lower g j) k (end g.pattern j) (minima_of g.pattern.n u w) (rw (stop_is g j) at b))
          ∙ s.run;
      entries = s.entries;
    }

-- ---- the columns from j on
pub record Scanning (g : CostGraph) (u : List Float) (w : List ℕ) (j : ℕ) : Type 0 where
  pub within : j ≤ g.pattern.n
  pub ready : Ready g u w
  pub entries : region jperm_at g.pattern.n w ≡ replicate g.pattern.n none
  pub run : each j g.pattern.n (λ i. each (start g.pattern i) (end g.pattern i) (lower g i)) (minima_of g.pattern.n u w) ≡ phase1 g

pub scanning_start : {g : CostGraph} {u : List Float} {w : List ℕ} → Ready g u w → Cleared g.pattern.n u w → Scanning g u w 0
unfolding phase1
scanning_start {g} r c = record { within = omega arith; ready = r; entries = c.entries; run = rw c.minima refl }

module _ {g : CostGraph} {u : List Float} {w : List ℕ} {j : ℕ} (s : Scanning g u w j) where
  pub scanning_turn : {u' : List Float} {w' : List ℕ} → j < g.pattern.n → length u' ≡ length u → length w' ≡ length w → Lowered g j u w u' w'
      → Scanning g u' w' (j + 1)
  scanning_turn {u'} {w'} h a b l = record {
    within = omega arith;
    ready = record { sound = s.ready.sound; duals = a ∙ s.ready.duals; words = b ∙ s.ready.words };
    entries = l.entries ∙ s.entries;
    run = rw (l.minima, ← each_more (λ i. each (start g.pattern i) (end g.pattern i) (lower g i)) j g.pattern.n (minima_of g.pattern.n u w) h)
        s.run;
  }

  pub scanning_end : g.pattern.n ≤ j → Minimal g u w
  scanning_end h = record {
    minima = sym (each_none (λ i. each (start g.pattern i) (end g.pattern i) (lower g i)) j g.pattern.n (minima_of g.pattern.n u w) h) ∙ s.run;
    entries =
        s.entries;
  }
