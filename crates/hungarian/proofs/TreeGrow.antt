-- A search from its root to its end: the first tree, then a popped row a turn until the heap is empty or no row is nearer than the best path. n turns
-- are enough, since each pops another row.
use mathlib.Core.Path.{◌≡◌, refl, sym, ap, ◌∙◌, subst}
use mathlib.Core.Logic.{◌⊎◌, inl, inr, ◌≢◌}
use mathlib.Core.Bool.{Bool, true, false, cond, ◌||◌, not}
use mathlib.Core.List.{List, [], ◌∷◌, ◌++◌}
use Prim.Native.Nat.{ℕ, zero, suc, ◌+◌, ◌-◌, ◌≤◌, ◌<◌, zero-le}
use native.Mathlib.Decide.{dec_lt}
use native.Mathlib.Omega.{arith}
use lib.Dec.{T, eqb, eqb→eq}
use lib.ListN.{length, set, length-set}
use lib.Seq.{get_or-set_same}
use lib.Ieee.{Float, le}
use Rattle.limits.specs.Limits.{none}
use Rattle.float64.specs.Number.{origin}
use Rattle.float64.specs.Constants.{rinf}
use Rattle.index_heap.specs.IndexHeap.{row_at}
use Rattle.matching.proofs.Pairings.{apart}
use Rattle.hungarian.specs.declared.HungarianStats.{HungarianStats}
use Rattle.sparse.specs.Pattern.{row_of, start, end, InColumn}
use Rattle.hungarian.specs.Graph.{CostGraph, cost_of}
use Rattle.hungarian.specs.Counts.{column_scanned, search_begun, counts}
use Rattle.hungarian.specs.Init.{Pairs, reduced}
use Rattle.hungarian.specs.Loop.{each}
use Rattle.hungarian.specs.Search.{Tree, among, edge, extend, grow, scan_root}
use Rattle.hungarian.specs.Match.{Running, tree_from}
use Rattle.hungarian.specs.inner.Setting.{Setting}
use Rattle.hungarian.specs.inner.Bounds.{level, Small, Distance}
use Rattle.hungarian.specs.inner.Between.{at, dual, Matched, Bounded}
use Rattle.hungarian.specs.inner.SearchTree.{Scanning, Examined, Grown}
use Rattle.hungarian.specs.inner.Runs.{Clean}
use Rattle.hungarian.proofs.Bounds.{level_step}
use Rattle.hungarian.proofs.Distances.{distance}
use Rattle.sparse.proofs.Columns.{in_entries, row_below}
use Rattle.hungarian.proofs.Rows.{weigh, weigh_more, length_more}
use Rattle.hungarian.proofs.Tree as Tree
use Rattle.hungarian.proofs.TreeScan.{Distances, scan_keeps}
use Rattle.hungarian.proofs.TreePop.{popped_count, extend_keeps}

-- how many entries column j has, and how many a search has scanned
abbrev pub entries_of : CostGraph → ℕ → ℕ
entries_of g j = end g.pattern j - start g.pattern j

abbrev pub scanned_by : CostGraph → Pairs → ℕ → List ℕ → ℕ
scanned_by g s r popped = entries_of g r + weigh (λ q. entries_of g (at s.iperm q)) popped

-- a search that has come to its end, with the counts c before it
pub record Searched (Good : Float → Type 0) (err C : ℕ) (g : CostGraph) (s : Pairs) (u : List Float) (r : ℕ) (c : HungarianStats) (t : Tree) : Type 0 where
  pub rank : ℕ → ℕ
  pub offset : ℕ → ℕ
  pub top : ℕ
  pub now : ℕ
  pub scanning : Scanning Good err C g s u r rank offset top now (end g.pattern now) t
  pub counted : t.stats ≡ column_scanned (scanned_by g s r t.popped) c
  pub stopped : (t.heap.len ≡ 0) ⊎ (le t.csp (dual t.d (row_at t.heap 1)) ≡ true)

scanned_twice : (a b : ℕ) (c : HungarianStats) → column_scanned b (column_scanned a c) ≡ column_scanned (a + b) c
unfolding column_scanned
scanned_twice a b c = ap (λ (x : ℕ). counts c.heap_init_slots c.augment_searches c.touched_total c.phase3_inner_iters x
    c.popped_total c.largest_heap) (let e : c.main_loop_edge_scans + a + b ≡ c.main_loop_edge_scans + (a + b) = omega arith in e)

module _ {Good : Float → Type 0} {err C : ℕ} {g : CostGraph} {s : Pairs} {u : List Float} {r : ℕ} (S : Setting Good err C g) (M : Matched g s)
    (B : Bounded Good C g s u) (H : Tree.HeapLaws g.pattern.n) (root : at s.jperm r ≡ none) (c : HungarianStats) where
  pub grow_keeps : (m : ℕ) (rank v : ℕ → ℕ) (top now : ℕ) (t : Tree) → Scanning Good err C g s u r rank v top now (end g.pattern now) t
      → t.stats ≡ column_scanned (scanned_by g s r t.popped) c → g.pattern.n ≤ length t.popped + m
      → Searched Good err C g s u r c (grow g s u m t)
  unfolding grow
  grow_keeps zero rank v top now t I e h =
      record { rank = rank; offset = v; top = top; now = now; scanning = I; counted = e; stopped = go (dec_lt 0 t.heap.len) }
    where
      go : Dec (0 < t.heap.len) → (t.heap.len ≡ 0) ⊎ (le t.csp (dual t.d (row_at t.heap 1)) ≡ true)
      go (yes p) = let z = popped_count S M B H root now t I p in let n : ⊥ = omega arith in absurd n
      go (no p) = inl (omega arith)
  grow_keeps (suc m) rank v top now t I e h =
      go (eqb t.heap.len 0) (eqb→eq t.heap.len 0) (apart t.heap.len 0) (le t.csp (dual t.d (row_at t.heap 1))) refl (grow_keeps m)
    where
      done : (t.heap.len ≡ 0) ⊎ (le t.csp (dual t.d (row_at t.heap 1)) ≡ true) → Searched Good err C g s u r c t
      done z = record { rank = rank; offset = v; top = top; now = now; scanning = I; counted = e; stopped = z }

      go : (a : Bool) → (T a → t.heap.len ≡ 0) → (T (not a) → t.heap.len ≢ 0) → (b : Bool) → le t.csp (dual t.d (row_at t.heap 1)) ≡ b
          → ((rank v : ℕ → ℕ) (top now : ℕ) (t : Tree) → Scanning Good err C g s u r rank v top now (end g.pattern now) t → t.stats ≡ column_scanned
          (scanned_by g s r t.popped) c → g.pattern.n ≤ length t.popped + m → Searched Good err C g s u r c (grow g s u m t))
          → Searched Good err C g s u r c (cond (a || b) t (grow g s u m (extend g s u t)))
      go true f k b q w = done (inl (f tt))
      go false f k true q w = done (inr q)
      go false f k false q w =
          let p : 0 < t.heap.len = (let z = k tt in positive t.heap.len z) in
          let x = extend_keeps S M B H root now t I p q in
          let i = row_at t.heap 1 in
          w _ _ _ _ (extend g s u t) x.0
          (x.1.stats ∙ ap (column_scanned (entries_of g (at s.iperm i))) e ∙ scanned_twice (scanned_by g s r t.popped) (entries_of g (at s.iperm i)) c
          ∙ ap (λ (z : ℕ). column_scanned z c) (sum_more i ∙ sym (ap (scanned_by g s r) x.1.popped)))
          (omega (arith, ap length x.1.popped, length_more i t.popped))
        where
          positive : (n : ℕ) → n ≢ 0 → 0 < n
          positive zero z = absurd (z refl)
          positive (suc n) z = omega arith

          sum_more : (i : ℕ) → scanned_by g s r t.popped + entries_of g (at s.iperm i) ≡ scanned_by g s r (t.popped ++ (i ∷ []))
          sum_more i = rw (weigh_more (λ q. entries_of g (at s.iperm q)) i t.popped) (omega arith)

-- ---- the first tree
module _ {Good : Float → Type 0} {err C : ℕ} {g : CostGraph} (S : Setting Good err C g) (H : Tree.HeapLaws g.pattern.n) (x : Running) (r : ℕ)
    (M : Matched g x.pairs) (B : Bounded Good C g x.pairs x.u) (clean : Clean g x) (below : r < g.pattern.n)
    (root : at x.pairs.jperm r ≡ none) where
  abbrev first : Tree
  first = record {
    d = x.d;
    heap = x.heap;
    pr = set x.pr r none;
    out = x.out;
    touched = [];
    popped = [];
    csp = rinf;
    isp = none;
    jsp = none;
    peak = 0;
    stats = column_scanned (entries_of g r) (search_begun x.stats);
  }

  first_grown : Grown Good err C g x.pairs x.u r (λ j. 0) first
  unfolding among
  first_grown = record {
    d_count = clean.d_count;
    pr_count = length-set x.pr r none ∙ clean.pr_count;
    out_count = clean.out_count;
    heap = clean.heap;
    reached = λ i m. absurd m;
    touched_once = tt;
    popped_once = tt;
    popped_touched = λ i m. m;
    heap_touched = λ i h. clean.none_within i h;
    heap_open = λ i h m. m;
    touched_in = λ i m. absurd m;
    far = λ i h a. clean.far i h;
    peak_most = zero-le;
    root_alone = get_or-set_same x.pr r none 0 (omega (arith, clean.pr_count));
    rank_root = refl;
    rank_lower = λ q m. absurd m;
    rank_most = λ q m. absurd m;
    best = inl refl;
  }

  first_scanning : Scanning Good err C g x.pairs x.u r (λ j. 0) (λ j. origin) 0 r (start g.pattern r) first
  unfolding among
  first_scanning = record {
    grown = first_grown;
    covered = λ j k z. absurd (none_yet j k z);
    order = λ e. record {
      root_offset = refl;
      offset = λ q m. absurd m;
      exact = λ i m. absurd m;
      popped_near = λ q m. absurd m;
      heap_far = λ i h. omega arith;
      path_far = omega arith;
      path_exact = inl refl;
      heap_order = record { parent = λ p lo hi. absurd (let n : ⊥ = omega (arith, clean.empty) in n) };
    };
    near = λ e j k z. absurd (none_yet j k z);
  }
    where
      none_yet : (j k : ℕ) → Examined g x.pairs r first r (start g.pattern r) j k → ⊥
      none_yet j k (inl e, c, b) = let l = b e in let h = subst (λ (y : ℕ). start g.pattern y ≤ k) e c.above in omega arith
      none_yet j k (inr (q, m, e), c, b) = m

  cost_small : (k : ℕ) → InColumn g.pattern r k → Small Good (level C 1) (cost_of g k)
  cost_small k c =
      let h = in_entries g.pattern S.columns r k c in
      let e = level_step C 0 in
      record { good = S.good k h; size = record { above = omega (arith, S.high k h); under = omega (arith, S.low k h) } }

  first_distance : (k : ℕ) (c : InColumn g.pattern r k) → Distance Good err (cost_of g k) (dual x.u (row_of g.pattern k)) (reduced g x.u k)
  first_distance k c = distance S (omega (arith, below)) 1 (cost_of g k) (dual x.u (row_of g.pattern k)) (omega arith) (cost_small k c)
      (B.small (row_of g.pattern k) (row_below g.pattern S.columns r k c))

  first_distances : Distances Good err C g x.pairs x.u (λ j. origin) 0 0 r (reduced g x.u)
  first_distances = record {
    distance = λ k c. record { start = cost_of g k; small = cost_small k c; distance = first_distance k c };
    exact = λ e k c. let n = (first_distance k c).near in let z = e.0 in omega (arith, n.above, n.under);
    high = λ e k c. omega arith;
  }

  pub search_tree : Searched Good err C g x.pairs x.u r (search_begun x.stats) (tree_from g r x)
  unfolding tree_from scan_root weigh
  search_tree =
      let w = scan_keeps S M H root first r (reduced g x.u) below (inl refl) first_distances first_scanning in
      grow_keeps S M B H root (search_begun x.stats) g.pattern.n (λ j. 0) (λ j. origin) 0 r
      (each (start g.pattern r) (end g.pattern r) (λ k. edge g x.pairs.iperm (reduced g x.u k) r k) first) w.0
      (w.1.stats ∙ ap (λ (z : ℕ). column_scanned z (search_begun x.stats))
      ((let e : entries_of g r ≡ entries_of g r + 0 = omega arith in e) ∙ sym (ap (scanned_by g x.pairs r) w.1.popped)))
      (omega arith)
