-- A search from its root: the first tree, the root's column scanned, and the tree grown are the definition's `tree_from`. (The first tree's laws are
-- the theory's, in TreeGrow, which does not hand them out; sums are not exact here, so its order is void.)
use mathlib.Core.Path.{◌≡◌, refl, sym, ap, ◌∙◌, subst}
use mathlib.Core.Logic.{◌⊎◌, inl, inr}
use Rattle.std.proofs.Common.{Option}
use mathlib.Core.Bool.{true, cond}
use mathlib.Core.List.{List, []}
use Prim.Native.Nat.{ℕ, suc, ◌+◌, ◌-◌, ◌*◌, ◌≤◌, ◌<◌, ◌^◌, zero-le}
use native.Mathlib.Nat.{mul-le-mul}
use native.Mathlib.Omega.{arith}
use borrow.Author.Tests.{eqb-false}
use lib.Dec.{lit<}
use lib.ListN.{length, set, drop, length-set}
use lib.Seq.{get_or-set_same}
use lib.Ieee.{Float, lt}
use Rattle.limits.specs.Limits.{none}
use Rattle.float64.specs.Number.{Number, units_per_one, origin}
use Rattle.float64.specs.Constants.{rinf}
use Rattle.index_heap.proofs.Keys.{keyed_none}
use Rattle.hungarian.specs.declared.HungarianStats.{HungarianStats}
use Rattle.sparse.specs.Pattern.{row_of, start, end, entries, InColumn}
use Rattle.hungarian.specs.Graph.{CostGraph, cost_of}
use Rattle.hungarian.specs.Counts.{column_scanned, search_begun}
use Rattle.hungarian.specs.Init.{Pairs, reduced}
use Rattle.hungarian.specs.inner.Layout.{region, iperm_at, pr_at, out_at}
use Rattle.hungarian.specs.Search.{Tree, among, grow, scan_root, path, no_path, found}
use Rattle.hungarian.specs.Match.{tree_from}
use Rattle.cost_limit.specs.Range.{cost_limit}
use Rattle.hungarian.specs.inner.Bounds.{level, Small}
use Rattle.hungarian.specs.inner.Between.{at, dual, Matched, Bounded}
use Rattle.hungarian.specs.inner.SearchTree.{Examined, Scanning, GoodDistance, Grown}
use Rattle.hungarian.proofs.Bounds.{level_step}
use Rattle.hungarian.proofs.Distances.{distance}
use Rattle.sparse.proofs.Columns.{in_entries, row_below, pointers_rise}
use Rattle.hungarian.proofs.Regions.{region_set, region_apart}
use Rattle.hungarian.proofs.HeapSteps.{heap_laws}
use Rattle.hungarian.proofs.TreeScan.{Distances, scan_keeps}
use Rattle.hungarian_path.specs.declared.Frontier.{Frontier}
use Rattle.hungarian_path.specs.declared.Path.{Path}
use Rattle.hungarian_path.specs.inner.Views.{heap_in, tree_of, pairs_of, entry_distance, scan_by, Flagged}
use Rattle.hungarian_path.specs.inner.StepsGrow.{ScanReady, Scans, Growing, Grows}
use Rattle.hungarian_path.specs.inner.StepsSearch.{running_of, found_of, left_of, SearchReady, Finds}
use Rattle.hungarian_path.proofs.Memory.{heap_front}
use Rattle.hungarian_path.proofs.Scans.{pairs_same, flagged_same}
use Rattle.hungarian_path.proofs.Growths.{grown_in, scanning_in}

-- no path yet
abbrev pub root_frontier : Frontier
root_frontier = record { csp = rinf; isp = none; jsp = none; len = 0; touched = 0; popped = 0; peak = 0 }

-- sums of doubles are not exact
pub inexact : units_per_one ≡ 0 → ⊥
unfolding units_per_one
inexact e = eqb-false (2 ^ 1074) 0 refl e

module _ (g : CostGraph) (u : List Float) (w pos : List ℕ) (keys d : List Float) (stats : HungarianStats) (j : ℕ)
    (T : SearchReady g u w pos keys d stats j) where
  abbrev s : Pairs
  s = pairs_of g.pattern.n w

  abbrev begun : List ℕ
  begun = set w (4 * g.pattern.n + j) none

  abbrev counted : HungarianStats
  counted = column_scanned (end g.pattern j - start g.pattern j) (search_begun stats)

  abbrev first_tree : HungarianStats → Tree
  first_tree c = record {
    d = d;
    heap = heap_in g.pattern.n w pos 0;
    pr = set (region pr_at g.pattern.n w) j none;
    out = region out_at g.pattern.n w;
    touched =
        [];
    popped = [];
    csp = rinf;
    isp = none;
    jsp = none;
    peak = 0;
    stats = c;
  }

  M : Matched g (pairs_of g.pattern.n w)
  M = T.runs.matched

  B : Bounded Number (cost_limit g.pattern.n) g (pairs_of g.pattern.n w) u
  B = T.runs.bounded

  first_tree_lem : (c : HungarianStats) → tree_of g.pattern.n begun pos d root_frontier c ≡ first_tree c
  unfolding tree_of
  first_tree_lem c = λ z. record {
    d = d;
    heap = heap_front g.pattern.n w pos (4 * g.pattern.n + j) none (omega (arith, T.below)) 0 z;
    pr = region_set 4 g.pattern.n w j none T.below z;
    out = region_apart 5 g.pattern.n w 4 j none T.below (inr (lit< tt)) z;
    touched = [];
    popped = [];
    csp = rinf;
    isp = none;
    jsp = none;
    peak = 0;
    stats = c;
  }

  other : (r : ℕ) → (r < 4) ⊎ (4 < r) → region r g.pattern.n begun ≡ region r g.pattern.n w
  other r h = region_apart r g.pattern.n w 4 j none T.below h

  same : pairs_of g.pattern.n begun ≡ s
  same = pairs_same g.pattern.n w begun (other 0 (inl (lit< tt))) (other 1 (inl (lit< tt)))

  first_grown : (c : HungarianStats) → Grown Number units_per_one (cost_limit g.pattern.n) g s u j (λ k. 0) (first_tree c)
  unfolding among
  first_grown c =
      let clean = T.runs.clean in
      record {
        d_count = clean.d_count;
        pr_count = length-set (region pr_at g.pattern.n w) j none ∙ clean.pr_count;
        out_count = clean.out_count;
        heap = clean.heap;
        reached = λ i m. absurd m;
        touched_once = tt;
        popped_once = tt;
        popped_touched = λ i m. m;
        heap_touched = λ i h. clean.none_within i h;
        heap_open = λ i h m. m;
        touched_in = λ i m. absurd m;
        far = λ i h a. clean.far i h;
        peak_most = zero-le;
        root_alone = get_or-set_same (region pr_at g.pattern.n w) j none 0 (omega (arith, clean.pr_count, T.below));
        rank_root = refl;
        rank_lower = λ q m. absurd m;
        rank_most = λ q m. absurd m;
        best = inl refl;
      }

  first_scanning : (c : HungarianStats) → Scanning Number units_per_one (cost_limit g.pattern.n) g s u j (λ k. 0) (λ k. origin) 0 j (start g.pattern j)
      (first_tree c)
  unfolding among
  first_scanning c = record {
    grown = first_grown c;
    covered = λ i k z. absurd (none_yet i k z);
    order = λ e. absurd (inexact e.0);
    near =
        λ e i k z. absurd (inexact e.0);
  }
    where
      none_yet : (i k : ℕ) → Examined g s j (first_tree c) j (start g.pattern j) i k → ⊥
      none_yet i k (inl e, a, b) = let l = b e in let h = subst (λ (y : ℕ). start g.pattern y ≤ k) e a.above in omega arith
      none_yet i k (inr (q, m, e), a, b) = m

  first_entry_distance : (k : ℕ) → InColumn g.pattern j k → GoodDistance Number units_per_one (level (cost_limit g.pattern.n) 1) u (row_of g.pattern k)
      (reduced g u k)
  first_entry_distance k c =
      let S = T.setting in
      let h = in_entries g.pattern S.columns j k c in
      let e = level_step (cost_limit g.pattern.n) 0 in
      let small : Small Number (level (cost_limit g.pattern.n) 1) (cost_of g k) =
      record { good = S.good k h; size = record { above = omega (arith, S.high k h); under = omega (arith, S.low k h) } } in
      record {
        start = cost_of g k;
        small = small;
        distance =
            distance S (omega (arith, T.below)) 1 (cost_of g k) (dual u (row_of g.pattern k)) (omega arith) small
            (B.small (row_of g.pattern k) (row_below g.pattern S.columns j k c));
      }

  distances : Distances Number units_per_one (cost_limit g.pattern.n) g s u (λ k. origin) 0 0 j (reduced g u)
  distances = record { distance = first_entry_distance; exact = λ e k c. absurd (inexact e.0); high = λ e k c. absurd (inexact e.0) }

  -- ---- the counts have room
  few_scans : (stats.main_loop_edge_scans ≤ 4096 * 262144) × (stats.augment_searches ≤ 4096)
  few_scans =
      let K = T.runs.counted in
      let a : K.searches ≤ 4096 = omega (arith, T.runs.searches_most, T.below, T.setting.few_columns) in
      let b : K.searches * entries g.pattern ≤ 4096 * 262144 = mul-le-mul a T.setting.few_entries in
      rw K.form (omega (arith, K.scans_most), a)

  pub root_ranges : (j < g.pattern.n) × (g.pattern.n ≤ 4096) × (length w ≡ 12 * g.pattern.n + 1) × (length g.pattern.col_ptr ≡ suc g.pattern.n) ×
      (start g.pattern j ≤ end g.pattern j)
      × (end g.pattern j ≤ 262144) × (stats.main_loop_edge_scans ≤ 4096 * 262144) × (stats.augment_searches ≤ 4096)
  root_ranges = (
    T.below,
    T.setting.few_columns,
    T.size,
    T.setting.pointer_count,
    T.setting.columns.pointers.rises j T.below,
    omega (
      arith,
      subst (λ (m : ℕ). end g.pattern j ≤ m) T.setting.columns.pointers.last
          (pointers_rise g.pattern T.setting.columns (suc j) g.pattern.n T.below (omega arith)),
      T.setting.few_entries,
    ),
    few_scans.0,
    few_scans.1,
  )

  pub root_asks : (v : Float) → ScanReady g u begun pos keys d root_frontier true v j
  unfolding entry_distance
  root_asks v = record {
    setting = T.setting;
    duals = B.dual_count;
    sized = record { size = simp length-set T.size; places = T.places; key_count = T.key_count; touched = omega arith; popped = omega arith };
    keyed = keyed_none d 0 (drop (11 * g.pattern.n) begun) keys;
    stats = stats;
    flagged = rw (first_tree_lem stats) T.flagged;
    matched = subst (Matched g) (sym same) M;
    r = j;
    free = subst (λ (p : Pairs). at p.jperm j ≡ none) (sym same) T.free;
    rank = λ k. 0;
    grown = grown_in same (first_tree_lem stats) (first_grown stats);
    column = T.below;
    scanned = inl refl;
    distance = λ k c. rw (first_tree_lem stats) (first_entry_distance k c);
  }

  -- ---- the root's column is scanned
  module _ (v : Float) (w₁ pos₁ : List ℕ) (keys₁ d₁ : List Float) (frontier₁ : Frontier)
      (Z : Scans g u begun w₁ pos pos₁ keys₁ d d₁ root_frontier frontier₁ true v j) (long : length w₁ ≡ length begun)
      (longer : (length pos₁ ≡ length pos) × (length keys₁ ≡ length keys)) where
    tree_is : tree_of g.pattern.n w₁ pos₁ d₁ frontier₁ counted ≡ scan_root g s u j (first_tree counted)
    unfolding scan_root entry_distance
    tree_is = Z.tree counted ∙ ap (λ (l : List ℕ). scan_by true v g l u j (tree_of g.pattern.n begun pos d root_frontier counted)) (other 0 (inl (lit< tt)))
        ∙ ap (scan_by true v g (region iperm_at g.pattern.n w) u j) (first_tree_lem counted)

    same₁ : pairs_of g.pattern.n w₁ ≡ s
    same₁ = pairs_same g.pattern.n begun w₁ Z.same.iperm Z.same.jperm ∙ same

    pub root_growing : Growing g u w₁ pos₁ keys₁ d₁ frontier₁ counted × (frontier₁.popped ≡ 0)
    unfolding scan_root
    root_growing =
        let x = scan_keeps T.setting M (heap_laws g.pattern.n) T.free (first_tree counted) j (reduced g u) T.below (inl refl) distances
        (first_scanning counted) in
        let p : (tree_of g.pattern.n w₁ pos₁ d₁ frontier₁ counted).popped ≡ [] = ap (λ (a : Tree). a.popped) tree_is ∙ x.1.popped in (
          record {
            setting = T.setting;
            sized = record {
              size = long ∙ simp length-set T.size;
              places = longer.0 ∙ T.places;
              key_count = longer.1 ∙ T.key_count;
              touched =
                  Z.counts.touched (omega arith);
              popped = rw Z.counts.popped (omega arith);
            };
            keyed = Z.keyed;
            flagged = rw p (flagged_same g.pattern.n pos pos₁ [] Z.same.marks T.flagged);
            matched = subst (Matched g) (sym same₁) M;
            bounded = subst (λ (p : Pairs). Bounded Number (cost_limit g.pattern.n) g p u) (sym same₁) B;
            r = j;
            free = subst (λ (p : Pairs). at p.jperm j ≡ none) (sym same₁) T.free;
            rank = λ k. 0;
            offset = λ k. origin;
            top = 0;
            last = j;
            scanning = scanning_in same₁ tree_is x.0;
            counts = room;
          },
          Z.counts.popped,
        )
      where
        room : counted.main_loop_edge_scans + 262144 * (g.pattern.n - frontier₁.popped) < 2 ^ 62
        room = unfold column_scanned search_begun in omega (arith, root_ranges)

    pub root_finds : (w₂ pos₂ : List ℕ) (d₂ : List Float) (frontier₂ : Frontier) (stats₂ : HungarianStats)
        → Grows g u w₁ w₂ pos₁ pos₂ d₁ d₂ frontier₁ frontier₂ counted stats₂ → (end : Option Path) → found_of end ≡ cond (lt frontier₂.csp rinf)
        (path frontier₂.csp frontier₂.isp frontier₂.jsp) no_path → Finds g u w w₂ pos pos₂ d d₂ j stats
        (record { end = end; touched = frontier₂.touched; popped = frontier₂.popped; peak = frontier₂.peak; stats = stats₂ })
    unfolding tree_from tree_of
    root_finds w₂ pos₂ d₂ frontier₂ stats₂ W end is =
        let e : tree_of g.pattern.n w₂ pos₂ d₂ frontier₂ stats₂ ≡ tree_from g j (running_of g.pattern.n u w pos d stats) =
        W.tree ∙ ap (λ (p : Pairs). grow g p u g.pattern.n (tree_of g.pattern.n w₁ pos₁ d₁ frontier₁ counted)) same₁ ∙ ap
        (grow g s u g.pattern.n) tree_is in
        record {
          answer = is ∙ ap found e;
          tree = subst (λ (t : Tree). left_of g.pattern.n w₂ pos₂ d₂
              (record { end = end; touched = frontier₂.touched; popped = frontier₂.popped; peak = frontier₂.peak; stats = stats₂ }) t ≡ t) e refl;
          iperm = W.iperm ∙ ap (λ (p : Pairs). p.iperm) same₁;
          jperm = W.jperm ∙ ap (λ (p : Pairs). p.jperm) same₁;
          flagged = subst (λ (t : Tree). Flagged g.pattern.n pos₂ t.popped) e W.flagged;
          size = W.size;
          touched = W.touched;
          popped = W.popped;
        }
