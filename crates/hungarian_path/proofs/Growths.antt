-- The tree grows by a row: what `pop_nearest` and `scan` require and promise makes the definition's `extend`, and what holds of the tree still holds,
-- by the theory's `extend_keeps`.
use mathlib.Core.Path.{◌≡◌, refl, sym, ap, ◌∙◌, subst}
use mathlib.Core.Logic.{inr}
use mathlib.Core.Bool.{Bool, true, false, cond, not, ◌||◌, true≢false}
use mathlib.Core.List.{List, [], ◌∷◌, ◌++◌}
use Prim.Native.Nat.{ℕ, zero, suc, ◌+◌, ◌-◌, ◌*◌, ◌≤◌, ◌<◌, ◌^◌}
use native.Mathlib.Omega.{arith}
use native.Mathlib.Decide.{dec_lt}
use borrow.Author.Tests.{eqb-false, eq-eqb}
use lib.Dec.{eqb}
use lib.ListN.{length, get_or, drop}
use lib.Seq.{length-take-le, get_or-drop}
use lib.Ieee.{Float, nan, binary64, add, sub, le}
use Rattle.limits.specs.Limits.{none}
use Rattle.float64.specs.Number.{Number, units_per_one}
use Rattle.index_heap.specs.IndexHeap.{row_at}
use Rattle.hungarian.specs.declared.HungarianStats.{HungarianStats}
use Rattle.sparse.specs.Pattern.{row_of, start, end, entries}
use Rattle.hungarian.specs.Graph.{CostGraph, cost_of}
use Rattle.hungarian.specs.Counts.{column_scanned}
use Rattle.hungarian.specs.Init.{Pairs}
use Rattle.hungarian.specs.inner.Layout.{region, iperm_at, jperm_at, popped_at}
use Rattle.hungarian.specs.Search.{Tree, extend, scan, grow}
use Rattle.cost_limit.specs.Range.{cost_limit}
use Rattle.hungarian.specs.inner.Bounds.{level}
use Rattle.hungarian.specs.inner.Between.{at, dual, Matched, Bounded}
use Rattle.hungarian.specs.inner.SearchTree.{Among, Scanning, GoodDistance, Grown, Reached}
use Rattle.sparse.proofs.Columns.{in_entries, pointers_rise}
use Rattle.hungarian.proofs.Regions.{region_length, region_at}
use Rattle.hungarian.proofs.Rows.{among_new}
use Rattle.hungarian.proofs.HeapSteps.{heap_laws}
use Rattle.hungarian.proofs.TreePop.{opened, here, grown_more, column, own, popped_count, distances, extend_keeps}
use Rattle.hungarian_path.specs.declared.Frontier.{Frontier}
use Rattle.hungarian_path.specs.inner.Views.{heap_in, tree_of, pairs_of, Flagged, entry_distance, distance_by, scan_by}
use Rattle.hungarian_path.specs.inner.StepsGrow.{ScanReady, Scans, PopReady, Pops, has_nearer_row, Growing, Extensible, Extends, Grows}
use Rattle.hungarian_path.proofs.Edges.{iperm_at_lem}
use Rattle.hungarian_path.proofs.Scans.{pairs_same, flagged_same}

-- column j's entry, as the region has it
pub jperm_at_lem : (n : ℕ) (w : List ℕ) (j : ℕ) → j < n → get_or (region jperm_at n w) j 0 ≡ get_or w (n + j) 0
jperm_at_lem n w j h = region_at jperm_at n w j 0 h ∙ ap (λ (p : ℕ). get_or w p 0) (let e : jperm_at * n + j ≡ n + j = omega arith in e)

-- what holds of pairs and a tree holds of equal ones
pub grown_in : {g : CostGraph} {u : List Float} {r : ℕ} {rank : ℕ → ℕ} {s s' : Pairs} {t t' : Tree} → s' ≡ s → t' ≡ t → Grown Number units_per_one
    (cost_limit g.pattern.n) g s u r rank t → Grown Number units_per_one (cost_limit g.pattern.n) g s' u r rank t'
grown_in {g} {u} {r} {rank} {s} {s'} {t} {t'} e f G =
    subst (Grown Number units_per_one (cost_limit g.pattern.n) g s' u r rank) (sym f)
    (subst (λ (p : Pairs). Grown Number units_per_one (cost_limit g.pattern.n) g p u r rank t) (sym e) G)

pub scanning_in : {g : CostGraph} {u : List Float} {r : ℕ} {rank v : ℕ → ℕ} {top now upto : ℕ} {s s' : Pairs} {t t' : Tree} → s' ≡ s → t' ≡ t
    → Scanning Number units_per_one (cost_limit g.pattern.n) g s u r rank v top now upto t → Scanning Number units_per_one
    (cost_limit g.pattern.n) g s' u r rank v top now upto t'
scanning_in {g} {u} {r} {rank} {v} {top} {now} {upto} {s} {s'} {t} {t'} e f I =
    subst (Scanning Number units_per_one (cost_limit g.pattern.n) g s' u r rank v top now upto) (sym f)
    (subst (λ (p : Pairs). Scanning Number units_per_one (cost_limit g.pattern.n) g p u r rank v top now upto t) (sym e) I)

module _ (g : CostGraph) (u : List Float) (w pos : List ℕ) (keys d : List Float) (frontier : Frontier) (stats : HungarianStats)
    (X : Extensible g u w pos keys d frontier stats) where
  abbrev t : Tree
  t = tree_of g.pattern.n w pos d frontier stats

  abbrev s : Pairs
  s = pairs_of g.pattern.n w

  -- the nearest row, its column, and that column's entry
  abbrev q : ℕ
  q = row_at (tree_of g.pattern.n w pos d frontier stats).heap 1

  abbrev j : ℕ
  j = at (region iperm_at g.pattern.n w) (row_at (tree_of g.pattern.n w pos d frontier stats).heap 1)

  abbrev Y : Growing g u w pos keys d frontier stats
  Y = X.growing

  abbrev I : Scanning Number units_per_one (cost_limit g.pattern.n) g (pairs_of g.pattern.n w) u X.growing.r X.growing.rank X.growing.offset
      X.growing.top X.growing.last (end g.pattern X.growing.last) (tree_of g.pattern.n w pos d frontier stats)
  I = X.growing.scanning

  some : 0 < t.heap.len
  unfolding tree_of heap_in
  some = X.some

  reached : Reached Number units_per_one (cost_limit g.pattern.n) g s u X.growing.r t.popped t.pr t.out t.d q
  reached = here Y.setting Y.matched Y.bounded (heap_laws g.pattern.n) Y.free Y.last t I some

  popped_length : length t.popped ≡ frontier.popped
  unfolding tree_of
  popped_length = length-take-le frontier.popped (region popped_at g.pattern.n w)
      (rw (region_length popped_at g.pattern.n w (omega (arith, Y.sized.size))) Y.sized.popped)

  room : frontier.popped < g.pattern.n
  room = let h = popped_count Y.setting Y.matched Y.bounded (heap_laws g.pattern.n) Y.free Y.last t I some in omega (arith, popped_length)

  top_word : q ≡ get_or w (11 * g.pattern.n + 1) 0
  unfolding tree_of heap_in
  top_word = get_or-drop (11 * g.pattern.n) w 1 0

  -- the first row is in the heap
  pub first_row : (get_or w (11 * g.pattern.n + 1) 0 < g.pattern.n) × (g.pattern.n ≤ 4096) × (length w ≡ 12 * g.pattern.n + 1)
  first_row = (subst (λ (p : ℕ). p < g.pattern.n) top_word reached.row, Y.setting.few_columns, Y.sized.size)

  pub pop_asks : PopReady g.pattern.n w pos keys frontier
  unfolding tree_of
  pop_asks = record {
    workspace = record { words = Y.sized.size; small = Y.setting.few_columns };
    places = Y.sized.places;
    key_count =
        Y.sized.key_count;
    heap = I.grown.heap;
    some = X.some;
    room = room;
  }

  nearer : le t.csp (dual t.d q) ≡ false
  unfolding tree_of heap_in
  nearer = subst (λ (y : Float). le frontier.csp y ≡ false) (Y.keyed.key 1 (omega arith) X.some (λ e. omega arith)) X.nearer

  abbrev value : Float
  value = add binary64 (sub binary64 (dual (tree_of g.pattern.n w pos d frontier stats).d (row_at (tree_of g.pattern.n w pos d frontier stats).heap 1))
      (cost_of g (at (region jperm_at g.pattern.n w) (at (region iperm_at g.pattern.n w)
      (row_at (tree_of g.pattern.n w pos d frontier stats).heap 1)))))
      (dual u (row_at (tree_of g.pattern.n w pos d frontier stats).heap 1))

  -- the counts with the column's entries
  abbrev counted : HungarianStats
  counted = column_scanned (end g.pattern (at (region iperm_at g.pattern.n w) (row_at (tree_of g.pattern.n w pos d frontier stats).heap 1)) - start
      g.pattern
      (at (region iperm_at g.pattern.n w) (row_at (tree_of g.pattern.n w pos d frontier stats).heap 1))) stats

  j_below : j < g.pattern.n
  j_below = column Y.setting Y.matched Y.bounded (heap_laws g.pattern.n) Y.free Y.last t I some

  ranges : (q < g.pattern.n) × (j < g.pattern.n) × (at (region jperm_at g.pattern.n w) j < length g.cost) × (length u ≡ g.pattern.n) ×
      (length d ≡ g.pattern.n)
      × (start g.pattern j ≤ end g.pattern j) × (end g.pattern j ≤ entries g.pattern) × (entries g.pattern ≤ 262144) ×
      (length g.pattern.col_ptr ≡ suc g.pattern.n)
  unfolding tree_of
  ranges = (
    reached.row,
    j_below,
    subst (λ (m : ℕ). at (region jperm_at g.pattern.n w) j < m) (sym Y.setting.cost_count)
        (in_entries g.pattern Y.setting.columns j (at (region jperm_at g.pattern.n w) j)
        (own Y.setting Y.matched Y.bounded (heap_laws g.pattern.n) Y.free Y.last t I some)),
    Y.bounded.dual_count,
    I.grown.d_count,
    Y.setting.columns.pointers.rises j j_below,
    subst (λ (m : ℕ). end g.pattern j ≤ m) Y.setting.columns.pointers.last
        (pointers_rise g.pattern Y.setting.columns (suc j) g.pattern.n j_below (omega arith)),
    Y.setting.few_entries,
    Y.setting.pointer_count,
  )

  popped_after : (extend g s u t).popped ≡ t.popped ++ (q ∷ [])
  popped_after = (extend_keeps Y.setting Y.matched Y.bounded (heap_laws g.pattern.n) Y.free Y.last t I some nearer).1.popped

  -- ---- once the row is popped
  module _ (w₁ pos₁ : List ℕ) (keys₁ : List Float) (frontier₁ : Frontier) (K : Pops g.pattern.n w w₁ pos pos₁ keys₁ d frontier frontier₁)
      (long : length w₁ ≡ length w) (longer : (length pos₁ ≡ length pos) × (length keys₁ ≡ length keys)) where
    -- the words that the code reads then
    row_is : get_or w (11 * g.pattern.n + 1) 0 ≡ q
    row_is = sym top_word

    column-is : get_or w₁ q 0 ≡ j
    column-is = sym (iperm_at_lem g.pattern.n w₁ q reached.row) ∙ ap (λ (l : List ℕ). get_or l q 0) K.iperm

    own_is : get_or w₁ (g.pattern.n + j) 0 ≡ at (region jperm_at g.pattern.n w) j
    own_is = sym (jperm_at_lem g.pattern.n w₁ j j_below) ∙ ap (λ (l : List ℕ). get_or l j 0) K.jperm

    open_tree : tree_of g.pattern.n w₁ pos₁ d frontier₁ counted ≡ opened g s t q
    unfolding tree_of
    open_tree = K.tree counted

    same : pairs_of g.pattern.n w₁ ≡ s
    same = pairs_same g.pattern.n w w₁ K.iperm K.jperm

    scan_asks : ScanReady g u w₁ pos₁ keys₁ d frontier₁ false value j
    unfolding entry_distance tree_of
    scan_asks = record {
      setting = Y.setting;
      duals = Y.bounded.dual_count;
      sized = record {
        size = long ∙ Y.sized.size;
        places = longer.0 ∙ Y.sized.places;
        key_count = longer.1 ∙ Y.sized.key_count;
        touched =
            rw K.touched Y.sized.touched;
        popped = rw K.popped (omega (arith, room));
      };
      keyed = K.keyed;
      stats = counted;
      flagged = subst (Flagged g.pattern.n pos₁) (sym (ap popped_of open_tree)) (flags Y.flagged);
      matched = subst (Matched g) (sym same) Y.matched;
      r = Y.r;
      free = subst (λ (p : Pairs). at p.jperm Y.r ≡ none) (sym same) Y.free;
      rank = _;
      grown = grown_in same open_tree (grown_more Y.setting Y.matched Y.bounded (heap_laws g.pattern.n) Y.free Y.last t I some);
      column = j_below;
      scanned = inr (q, subst (λ (l : List ℕ). Among q l) (sym (ap popped_of open_tree)) (among_new q t.popped), ap (λ (l : List ℕ). get_or l q 0) K.iperm);
      distance = λ k c. subst (λ (l : List ℕ). GoodDistance Number units_per_one (level (cost_limit g.pattern.n) (suc (length l))) u (row_of g.pattern k)
          (distance_by false value g u k)) (sym (ap popped_of open_tree))
          ((distances Y.setting Y.matched Y.bounded (heap_laws g.pattern.n) Y.free Y.last t I some).distance k c);
    }
      where
        popped_of : Tree → List ℕ
        popped_of a = a.popped

        flags : Flagged g.pattern.n pos t.popped → Flagged g.pattern.n pos₁ (t.popped ++ (q ∷ []))
        flags F = K.flagged t.popped F

    -- the column is scanned
    module _ (w₂ pos₂ : List ℕ) (keys₂ d₂ : List Float) (frontier₂ : Frontier)
        (Z : Scans g u w₁ w₂ pos₁ pos₂ keys₂ d d₂ frontier₁ frontier₂ false value j) where
      tree_is : tree_of g.pattern.n w₂ pos₂ d₂ frontier₂ counted ≡ extend g s u t
      unfolding extend scan entry_distance
      tree_is = Z.tree counted ∙ ap (λ (l : List ℕ). scan_by false value g l u j (tree_of g.pattern.n w₁ pos₁ d frontier₁ counted)) K.iperm
          ∙ ap (scan_by false value g (region iperm_at g.pattern.n w) u j) open_tree

      extend_done : Extends g u w w₂ pos pos₂ keys₂ d d₂ frontier frontier₂ stats counted
      unfolding column_scanned tree_of
      extend_done = record {
        tree = tree_is;
        iperm = Z.same.iperm ∙ K.iperm;
        jperm = Z.same.jperm ∙ K.jperm;
        flagged = subst (Flagged g.pattern.n pos₂) (sym (ap (λ (a : Tree). a.popped) tree_is ∙ popped_after))
            (flagged_same g.pattern.n pos₁ pos₂ (t.popped ++ (q ∷ [])) Z.same.marks (K.flagged t.popped Y.flagged));
        popped = Z.counts.popped ∙ K.popped;
        touched = Z.counts.touched (rw K.touched Y.sized.touched);
        counts = omega (arith, ranges);
        keyed = Z.keyed;
      }

    -- ---- the same in the words that the code reads: the row, its column and that column's entry
    module _ (qc jc oc : ℕ) (eq : qc ≡ get_or w (11 * g.pattern.n + 1) 0) (ej : jc ≡ get_or w₁ qc 0) (eo : oc ≡ get_or w₁ (g.pattern.n + jc) 0) where
      is_q : qc ≡ q
      is_q = eq ∙ row_is

      is_j : jc ≡ j
      is_j = ej ∙ ap (λ (p : ℕ). get_or w₁ p 0) is_q ∙ column-is

      is_own : oc ≡ at (region jperm_at g.pattern.n w) j
      is_own = eo ∙ ap (λ (p : ℕ). get_or w₁ (g.pattern.n + p) 0) is_j ∙ own_is

      pub code_ranges : (qc < g.pattern.n) × (jc < g.pattern.n) × (oc < length g.cost) × (length u ≡ g.pattern.n) × (length d ≡ g.pattern.n) ×
          (start g.pattern jc ≤ end g.pattern jc)
          × (end g.pattern jc ≤ 262144) × (length g.pattern.col_ptr ≡ suc g.pattern.n) × (stats.main_loop_edge_scans < 2 ^ 62)
      code_ranges = rw (is_q, is_j, is_own) (
        ranges.0,
        ranges.1,
        ranges.2,
        ranges.3,
        ranges.4,
        ranges.5,
        omega (arith, ranges),
        ranges.8,
        omega (arith, Y.counts),
      )

      value-is : add binary64 (sub binary64 (get_or d qc nan) (get_or g.cost oc nan)) (get_or u qc nan) ≡ value
      unfolding tree_of
      value-is = λ z. add binary64 (sub binary64 (get_or d (is_q z) nan) (get_or g.cost (is_own z) nan)) (get_or u (is_q z) nan)

      pub code_asks : (v : Float) → v ≡ add binary64 (sub binary64 (get_or d qc nan) (get_or g.cost oc nan)) (get_or u qc nan)
          → ScanReady g u w₁ pos₁ keys₁ d frontier₁ false v jc
      code_asks v e = subst (λ (x : Float). ScanReady g u w₁ pos₁ keys₁ d frontier₁ false x jc) (sym (e ∙ value-is))
          (subst (λ (p : ℕ). ScanReady g u w₁ pos₁ keys₁ d frontier₁ false value p) (sym is_j) scan_asks)

      pub code_done : (v : Float) → v ≡ add binary64 (sub binary64 (get_or d qc nan) (get_or g.cost oc nan)) (get_or u qc nan) → (m : ℕ)
          → m ≡ end g.pattern jc - start g.pattern jc → (stats' : HungarianStats) → stats' ≡ column_scanned m stats
          → (w₂ pos₂ : List ℕ) (keys₂ d₂ : List Float) (frontier₂ : Frontier) → Scans g u w₁ w₂ pos₁ pos₂ keys₂ d d₂ frontier₁ frontier₂ false v jc
          → Extends g u w w₂ pos pos₂ keys₂ d d₂ frontier frontier₂ stats stats'
      code_done v e m f stats' h w₂ pos₂ keys₂ d₂ frontier₂ Z =
          subst (Extends g u w w₂ pos pos₂ keys₂ d d₂ frontier frontier₂ stats)
          (sym (h ∙ ap (λ (x : ℕ). column_scanned x stats) f ∙ ap (λ (p : ℕ). column_scanned (end g.pattern p - start g.pattern p) stats) is_j))
          (extend_done w₂ pos₂ keys₂ d₂ frontier₂
          (subst (λ (p : ℕ). Scans g u w₁ w₂ pos₁ pos₂ keys₂ d d₂ frontier₁ frontier₂ false value p) is_j
          (subst (λ (x : Float). Scans g u w₁ w₂ pos₁ pos₂ keys₂ d d₂ frontier₁ frontier₂ false x jc) (e ∙ value-is) Z)))

  -- ---- and so it goes on
  pub growing_next : (w' pos' : List ℕ) (keys' d' : List Float) (frontier' : Frontier) (stats' : HungarianStats) → length w' ≡ length w
      → length pos' ≡ length pos → length keys' ≡ length keys → Extends g u w w' pos pos' keys' d d' frontier frontier' stats stats'
      → Growing g u w' pos' keys' d' frontier' stats'
  growing_next w' pos' keys' d' frontier' stats' long places key_count E =
      let same : pairs_of g.pattern.n w' ≡ s = pairs_same g.pattern.n w w' E.iperm E.jperm in
      let x = extend_keeps Y.setting Y.matched Y.bounded (heap_laws g.pattern.n) Y.free Y.last t I some nearer in
      record {
        setting = Y.setting;
        sized = record {
          size = long ∙ Y.sized.size;
          places = places ∙ Y.sized.places;
          key_count = key_count ∙ Y.sized.key_count;
          touched =
              E.touched;
          popped = rw E.popped (omega (arith, room));
        };
        keyed = E.keyed;
        flagged = E.flagged;
        matched = subst (Matched g) (sym same) Y.matched;
        bounded = subst (λ (p : Pairs). Bounded Number (cost_limit g.pattern.n) g p u) (sym same) Y.bounded;
        r = Y.r;
        free = subst (λ (p : Pairs). at p.jperm Y.r ≡ none) (sym same) Y.free;
        rank = _;
        offset = _;
        top = _;
        last = _;
        scanning = scanning_in same E.tree x.0;
        counts = rw E.popped (omega (arith, room, E.counts, Y.counts));
      }

-- ---- the loop
pub record GrowAt (g : CostGraph) (u : List Float) (w₀ pos₀ : List ℕ) (keys₀ d₀ : List Float) (frontier₀ : Frontier) (stats₀ : HungarianStats)
    (w pos : List ℕ) (keys d : List Float) (frontier : Frontier) (stats : HungarianStats) : Type 0 where
  pub growing : Growing g u w pos keys d frontier stats
  pub size : length w ≡ length w₀
  pub places : length pos ≡ length pos₀
  pub key_count : length keys ≡ length keys₀
  pub d_count : length d ≡ length d₀
  pub iperm : region iperm_at g.pattern.n w ≡ region iperm_at g.pattern.n w₀
  pub jperm : region jperm_at g.pattern.n w ≡ region jperm_at g.pattern.n w₀
  pub run : grow g (pairs_of g.pattern.n w₀) u (g.pattern.n - frontier.popped) (tree_of g.pattern.n w pos d frontier stats) ≡ grow g
      (pairs_of g.pattern.n w₀) u g.pattern.n
      (tree_of g.pattern.n w₀ pos₀ d₀ frontier₀ stats₀)

module _ (g : CostGraph) (s : Pairs) (u : List Float) (t : Tree) where
  grow_turn : (m : ℕ) → has_nearer_row t.heap.len t.csp (get_or t.d (row_at t.heap 1) nan) ≡ true → (k : ℕ) → k ≡ suc m
      → grow g s u k t ≡ grow g s u m (extend g s u t)
  unfolding grow has_nearer_row
  grow_turn m e zero z = let n : ⊥ = omega arith in absurd n
  grow_turn m e (suc k) z = go (eqb t.heap.len 0 || le t.csp (get_or t.d (row_at t.heap 1) nan)) e
      ∙ ap (λ (x : ℕ). grow g s u x (extend g s u t)) (let y : k ≡ m = omega arith in y)
    where
      go : (b : Bool) → not b ≡ true → cond b t (grow g s u k (extend g s u t)) ≡ grow g s u k (extend g s u t)
      go true f = absurd (true≢false (sym f))
      go false f = refl

  grow_stop : (m : ℕ) → has_nearer_row t.heap.len t.csp (get_or t.d (row_at t.heap 1) nan) ≡ false → grow g s u m t ≡ t
  unfolding grow has_nearer_row
  grow_stop zero e = refl
  grow_stop (suc m) e = go (eqb t.heap.len 0 || le t.csp (get_or t.d (row_at t.heap 1) nan)) e
    where
      go : (b : Bool) → not b ≡ false → cond b t (grow g s u m (extend g s u t)) ≡ t
      go true f = refl
      go false f = absurd (true≢false f)

-- an empty heap has no first row
empty : (len : ℕ) (c x y : Float) → len ≡ 0 → has_nearer_row len c x ≡ has_nearer_row len c y
unfolding has_nearer_row
empty len c x y z = rw (eq-eqb len 0 z)

-- what the loop's test reads
module _ (g : CostGraph) (u : List Float) (w pos : List ℕ) (keys d : List Float) (frontier : Frontier) (stats : HungarianStats)
    (Y : Growing g u w pos keys d frontier stats) where
  -- the code's test is the definition's
  test_is : (b : Bool) → has_nearer_row frontier.len frontier.csp (get_or keys 0 nan) ≡ b
      → has_nearer_row (tree_of g.pattern.n w pos d frontier stats).heap.len (tree_of g.pattern.n w pos d frontier stats).csp
      (get_or (tree_of g.pattern.n w pos d frontier stats).d (row_at (tree_of g.pattern.n w pos d frontier stats).heap 1) nan) ≡ b
  unfolding tree_of heap_in
  test_is b e = go (dec_lt 0 frontier.len)
    where
      go : Dec (0 < frontier.len) → has_nearer_row frontier.len frontier.csp (get_or d (get_or (drop (11 * g.pattern.n) w) 1 0) nan) ≡ b
      go (yes l) = ap (λ (y : Float). has_nearer_row frontier.len frontier.csp y) (sym (Y.keyed.key 1 (omega arith) l (λ z. omega arith))) ∙ e
      go (no l) = empty frontier.len frontier.csp (get_or d (get_or (drop (11 * g.pattern.n) w) 1 0) nan) (get_or keys 0 nan) (omega arith) ∙ e

  pub test_taken : has_nearer_row frontier.len frontier.csp (get_or keys 0 nan) ≡ true → Extensible g u w pos keys d frontier stats
  unfolding has_nearer_row
  test_taken e = go (eqb frontier.len 0) refl (le frontier.csp (get_or keys 0 nan)) refl e
    where
      go : (a : Bool) → eqb frontier.len 0 ≡ a → (b : Bool) → le frontier.csp (get_or keys 0 nan) ≡ b → not (a || b) ≡ true
          → Extensible g u w pos keys d frontier stats
      go true p b q f = absurd (true≢false (sym f))
      go false p true q f = absurd (true≢false (sym f))
      go false p false q f = record { growing = Y; some = (let o = eqb-false frontier.len 0 p in positive frontier.len o); nearer = q }
        where
          positive : (m : ℕ) → (m ≡ 0 → ⊥) → 0 < m
          positive zero z = absurd (z refl)
          positive (suc m) z = omega arith

module _ (g : CostGraph) (u : List Float) (w₀ pos₀ : List ℕ) (keys₀ d₀ : List Float) (frontier₀ : Frontier) (stats₀ : HungarianStats) where
  module _ (w pos : List ℕ) (keys d : List Float) (frontier : Frontier) (stats : HungarianStats)
      (A : GrowAt g u w₀ pos₀ keys₀ d₀ frontier₀ stats₀ w pos keys d frontier stats) where
    pub grow_next : has_nearer_row frontier.len frontier.csp (get_or keys 0 nan) ≡ true → (w' pos' : List ℕ) (keys' d' : List Float)
        (frontier' : Frontier) (stats' : HungarianStats) → length w' ≡ length w → length pos' ≡ length pos → length keys' ≡ length keys → length d'
        ≡ length d → Extends g u w w' pos pos' keys' d d' frontier frontier' stats stats'
        → GrowAt g u w₀ pos₀ keys₀ d₀ frontier₀ stats₀ w' pos' keys' d' frontier' stats' × (frontier'.popped ≡ frontier.popped + 1)
        × (frontier.popped < g.pattern.n)
    grow_next e w' pos' keys' d' frontier' stats' long places key_count d_count E =
        let X = test_taken g u w pos keys d frontier stats A.growing e in
        let r = (pop_asks g u w pos keys d frontier stats X).room in (
          record {
            growing = growing_next g u w pos keys d frontier stats X w' pos' keys' d' frontier' stats' long places key_count E;
            size = long ∙ A.size;
            places = places ∙ A.places;
            key_count = key_count ∙ A.key_count;
            d_count = d_count ∙ A.d_count;
            iperm = E.iperm ∙ A.iperm;
            jperm = E.jperm ∙ A.jperm;
            run = ap (grow g (pairs_of g.pattern.n w₀) u (g.pattern.n - frontier'.popped))
                (E.tree ∙ ap (λ (p : Pairs). extend g p u (tree_of g.pattern.n w pos d frontier stats))
                (pairs_same g.pattern.n w₀ w A.iperm A.jperm))
                ∙ sym (grow_turn g (pairs_of g.pattern.n w₀) u (tree_of g.pattern.n w pos d frontier stats) (g.pattern.n - frontier'.popped)
                (test_is g u w pos keys d frontier stats A.growing true e) (g.pattern.n - frontier.popped) (omega (arith, E.popped)))
                ∙ A.run;
          },
          E.popped,
          r,
        )

    pub grow_done : has_nearer_row frontier.len frontier.csp (get_or keys 0 nan) ≡ false → Grows g u w₀ w pos₀ pos d₀ d frontier₀ frontier stats₀ stats
    grow_done e = record {
      tree = sym (grow_stop g (pairs_of g.pattern.n w₀) u (tree_of g.pattern.n w pos d frontier stats) (g.pattern.n - frontier.popped)
          (test_is g u w pos keys d frontier stats A.growing false e)) ∙ A.run;
      iperm = A.iperm;
      jperm = A.jperm;
      flagged = A.growing.flagged;
      size = A.growing.sized.size;
      touched = A.growing.sized.touched;
      popped = A.growing.sized.popped;
    }
