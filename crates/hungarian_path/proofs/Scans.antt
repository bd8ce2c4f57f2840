-- A column is scanned: at every entry the tree is as the definition has it so far, which the theory's `edge_keeps` carries on; from it follows what
-- `edge` requires.
use mathlib.Core.Path.{◌≡◌, refl, sym, ap, ◌∙◌, subst}
use mathlib.Core.Logic.{◌⊎◌, inl, inr, ⊎_elim, ◌≢◌}
use mathlib.Core.Bool.{Bool, true, false, not}
use mathlib.Core.List.{List, [], ◌∷◌, ◌++◌}
use Prim.Native.Nat.{ℕ, zero, suc, ◌+◌, ◌-◌, ◌*◌, ◌≤◌, ◌<◌, ◌^◌}
use native.Mathlib.Omega.{arith}
use borrow.Author.Tests.{eq-eqb, ne_eqb, eqb-false, ltb-true}
use lib.Dec.{T, T_not, eqb}
use lib.ListN.{length, get_or, take, drop}
use lib.Seq.{length-take-le}
use lib.Ieee.{Float, eq}
use Rattle.limits.specs.Limits.{none}
use Rattle.float64.specs.Number.{Number, units_per_one}
use Rattle.float64.specs.inner.Keys.{Ordered, position}
use Rattle.float64.specs.Constants.{rinf}
use Rattle.float64.proofs.Constants.{rinf_number}
use Rattle.float64.proofs.Order.{lt_key}
use Rattle.float64.proofs.WholeNumbers.{ordered}
use Rattle.index_heap.specs.IndexHeap.{place_of}
use Rattle.index_heap.specs.inner.Slices.{Keyed}
use Rattle.hungarian.specs.declared.HungarianStats.{HungarianStats}
use Rattle.sparse.specs.Pattern.{row_of, start, end, entries, InColumn}
use Rattle.hungarian.specs.Graph.{CostGraph}
use Rattle.hungarian.specs.inner.Layout.{region, iperm_at, touched_at}
use Rattle.matching.specs.Pairing.{matched_count}
use Rattle.hungarian.specs.Init.{Pairs}
use Rattle.hungarian.specs.Loop.{each, steps}
use Rattle.hungarian.specs.Search.{Tree, among, edge}
use Rattle.cost_limit.specs.Range.{cost_limit}
use Rattle.hungarian.specs.inner.Setting.{Setting}
use Rattle.hungarian.specs.inner.Between.{at, dual, Matched}
use Rattle.hungarian.specs.inner.SearchTree.{Among, Grown, PathEnd}
use Rattle.hungarian.proofs.Loops.{each_keeps}
use Rattle.sparse.proofs.Columns.{in_entries, row_below, pointers_rise}
use Rattle.hungarian.proofs.Regions.{region_length}
use Rattle.hungarian.proofs.Rows.{at_most_all, distinct_append, among_cases, length_more}
use Rattle.hungarian.proofs.HeapSteps.{heap_laws}
use Rattle.hungarian.proofs.Tree as Tree
use Rattle.hungarian.proofs.TreeCover.{edge_later}
use Rattle.hungarian_path.specs.declared.Frontier.{Frontier}
use Rattle.hungarian_path.specs.inner.Views.{tree_of, pairs_of, Flagged, Same, Kept, distance_by}
use Rattle.hungarian_path.specs.inner.Steps.{RelaxReady, EdgeReady, Passes}
use Rattle.hungarian_path.specs.inner.StepsGrow.{Sized, ScanReady, Scans}
use Rattle.hungarian_path.proofs.Memory.{unmarked_open, place_in}
use Rattle.hungarian_path.proofs.Edges.{iperm_at_lem, same_words_lem}

-- ---- loops
pub each_none : {A : Type 0} (k : ℕ) (f : ℕ → A → A) (t : A) → each k k f t ≡ t
unfolding steps
each_none k f t = ap (λ (m : ℕ). steps m k f t) (let e : k - k ≡ 0 = omega arith in e)

steps_more : {A : Type 0} (m k : ℕ) (f : ℕ → A → A) (t : A) → steps (suc m) k f t ≡ f (k + m) (steps m k f t)
unfolding steps
steps_more zero k f t = ap (λ (i : ℕ). f i t) (let e : k ≡ k + 0 = omega arith in e)
steps_more (suc m) k f t = steps_more m (suc k) f (f k t) ∙ ap (λ (i : ℕ). f i (steps m (suc k) f (f k t))) (let e : suc k + m ≡ k + suc m = omega arith in e)

-- one more turn at the end
pub each_more : {A : Type 0} (from k : ℕ) (f : ℕ → A → A) (t : A) → from ≤ k → each from (k + 1) f t ≡ f k (each from k f t)
each_more from k f t h =
    ap (λ (m : ℕ). steps m from f t) (let e : k + 1 - from ≡ suc (k - from) = omega arith in e) ∙ steps_more (k - from) from f t
    ∙ ap (λ (i : ℕ). f i (steps (k - from) from f t)) (let e : from + (k - from) ≡ k = omega arith in e)

-- ---- what `edge` asks, of any tree in memory
module _ {g : CostGraph} {u : List Float} (w pos : List ℕ) (keys d : List Float) (frontier : Frontier) (stats : HungarianStats)
    (S : Setting Number units_per_one (cost_limit g.pattern.n) g) (Z : Sized g.pattern.n w pos keys frontier)
    (K : Keyed d frontier.len 0 (drop (11 * g.pattern.n) w) keys) (F : Flagged g.pattern.n pos (tree_of g.pattern.n w pos d frontier stats).popped)
    (M : Matched g (pairs_of g.pattern.n w))
    (r : ℕ) (root : at (pairs_of g.pattern.n w).jperm r ≡ none) (rank : ℕ → ℕ)
    (G : Grown Number units_per_one (cost_limit g.pattern.n) g (pairs_of g.pattern.n w) u r rank (tree_of g.pattern.n w pos d frontier stats))
    (j k : ℕ) (x : Float) (E : Tree.Edge Number units_per_one (cost_limit g.pattern.n) g (pairs_of g.pattern.n w) u r
    (tree_of g.pattern.n w pos d frontier stats) j k x) where
  abbrev t : Tree
  t = tree_of g.pattern.n w pos d frontier stats

  abbrev i : ℕ
  i = row_of g.pattern k

  abbrev n : ℕ
  n = g.pattern.n

  row : row_of g.pattern k < g.pattern.n
  row = row_below g.pattern S.columns j k E.entry

  column-is : at (region iperm_at g.pattern.n w) (row_of g.pattern k) ≡ get_or w (row_of g.pattern k) 0
  column-is = iperm_at_lem g.pattern.n w (row_of g.pattern k) row

  number : (y : Float) → Number y → Ordered y
  number y h = ordered y h

  held : (b : Bool) → (T b → Among i t.touched) → (T (not b) → Among i t.touched → ⊥) → Ordered (dual t.d i)
  held true f h = ordered (dual t.d i) (G.reached i (f tt)).distance.distance.good
  held false f h = subst Ordered (sym (G.far i row (h tt))) (ordered rinf rinf_number)

  best : Ordered t.csp × (position t.csp ≤ position rinf)
  best = go G.best
    where
      go : (t.csp ≡ rinf) ⊎ PathEnd Number units_per_one (cost_limit g.pattern.n) g (pairs_of g.pattern.n w) u r t.popped t.csp t.isp t.jsp
          → Ordered t.csp × (position t.csp ≤ position rinf)
      go (inl e) = (subst Ordered (sym e) (ordered rinf rinf_number), let z = ap position e in omega arith)
      go (inr p) =
          let o = ordered t.csp p.distance.distance.good in (
            o,
            let l = ltb-true (position t.csp) (position rinf) (sym (lt_key t.csp rinf o (ordered rinf rinf_number)) ∙ p.distance.distance.finite) in
                omega arith,
          )

  untouched : at (region iperm_at g.pattern.n w) i ≡ none → dual t.d i ≡ rinf
  untouched e = G.far i row (λ m. (G.reached i m).matched e)

  touched_length : length (take frontier.touched (region touched_at g.pattern.n w)) ≡ frontier.touched
  touched_length = length-take-le frontier.touched (region touched_at g.pattern.n w)
      (rw (region_length touched_at g.pattern.n w (omega (arith, Z.size))) Z.touched)

  module _ (matched : at (region iperm_at g.pattern.n w) i ≢ none) (open' : Among i t.popped → ⊥) where
    -- not popped: not marked
    unmarked_row : get_or pos i 0 ≢ none
    unmarked_row = eqb-false (get_or pos i 0) none (F i row ∙ go (among i t.popped) open')
      where
        go : (b : Bool) → (T b → ⊥) → b ≡ false
        go true f = absurd (f tt)
        go false f = refl

    place : place_of t.heap i ≡ get_or pos i 0
    unfolding tree_of
    place = place_in g.pattern.n w pos frontier.len i ∙ unmarked_open (get_or pos i 0) unmarked_row

    -- first touch: not in the heap
    first : (b : Bool) → (T b → Among i t.touched) → (T (not b) → Among i t.touched → ⊥) → eq (dual t.d i) rinf ≡ eqb (place_of t.heap i) 0
    first true f h =
        let e = Tree.near_not_far S M (heap_laws g.pattern.n) root t j k x E G matched open' (f tt) in
        let l = Tree.within S M (heap_laws g.pattern.n) root t j k x E G matched open' (f tt) in
        e ∙ sym (ne_eqb (place_of t.heap i) 0 (λ z. omega arith))
    first false f h =
        let e = Tree.far_new S M (heap_laws g.pattern.n) root t j k x E G matched open' (h tt) in
        let z = Tree.not_within S M (heap_laws g.pattern.n) root t j k x E G matched open' (h tt) in
        ap (λ (y : Float). eq y rinf) e ∙ Tree.rinf_equal ∙ sym (eq-eqb (place_of t.heap i) 0 z)

    room : place_of t.heap i ≡ 0 → length t.touched < g.pattern.n
    room e =
        let new : Among i t.touched → ⊥ = λ m. let l = Tree.within S M (heap_laws g.pattern.n) root t j k x E G matched open' m in omega arith in
        let h = at_most_all g.pattern.n (t.touched ++ (i ∷ [])) (distinct_append i t.touched G.touched_once new)
        (λ q m. ⊎_elim (λ (a : Among q t.touched). (G.reached q a).row) (λ (e : q ≡ i). rw e row) (among_cases q i t.touched m)) in
        omega (arith, length_more i t.touched)

    relax_ready : RelaxReady g.pattern.n w pos keys d frontier i j k
    unfolding tree_of
    relax_ready = record {
      touching = record {
        workspace = record { words = Z.size; small = S.few_columns };
        places = Z.places;
        row = row;
        heap = G.heap;
        room =
            λ e. subst (λ (m : ℕ). m < g.pattern.n) touched_length (room (place ∙ e));
      };
      d_count = G.d_count;
      key_count = Z.key_count;
      keyed = K;
      column = subst (λ (c : ℕ). c < g.pattern.n) column-is (M.paired.rows i row matched).range;
      from = E.entry.column;
      entry = (let h = in_entries g.pattern S.columns j k E.entry in let f = S.few_entries in small h f);
      open' = unmarked_row;
      first = first (among i t.touched) (λ m. m) (λ o m. T_not (among i t.touched) o m) ∙ ap (λ (p : ℕ). eqb p 0) place;
    }
      where
        small : k < entries g.pattern → entries g.pattern ≤ 262144 → k < 2 ^ 32
        small h f = omega arith

  edge_ready : EdgeReady g.pattern.n w pos keys d frontier i x j k
  unfolding tree_of
  edge_ready = record {
    workspace = record { words = Z.size; small = S.few_columns };
    places = Z.places;
    row = row;
    d_count = G.d_count;
    keyed = K;
    from = E.entry.column;
    entry = (let h = in_entries g.pattern S.columns j k E.entry in let f = S.few_entries in small h f);
    flagged = F i row;
    distance = ordered x E.distance.distance.good;
    held = held (among i t.touched) (λ m. m) (λ o m. T_not (among i t.touched) o m);
    best = best.0;
    best_most = best.1;
    free = λ e. untouched (column-is ∙ e);
    matched = λ o p. relax_ready (λ e. o (sym column-is ∙ e)) (λ m. absurd (subst T p m));
  }
    where
      small : k < entries g.pattern → entries g.pattern ≤ 262144 → k < 2 ^ 32
      small h f = omega arith

-- ---- the loop over a column's entries, which stands at entry k
pub record ScanAt (g : CostGraph) (u : List Float) (w₀ pos₀ : List ℕ) (keys₀ d₀ : List Float) (frontier₀ : Frontier) (root : Bool) (v : Float) (j : ℕ)
    (w pos : List ℕ) (keys d : List Float) (frontier : Frontier) (k : ℕ) : Type 0 where
  pub lo : start g.pattern j ≤ k
  pub hi : k ≤ end g.pattern j
  pub size : length w ≡ length w₀
  pub places : length pos ≡ length pos₀
  pub key_count : length keys ≡ length keys₀
  pub d_count : length d ≡ length d₀
  pub tree : (stats : HungarianStats) → tree_of g.pattern.n w pos d frontier stats ≡ each (start g.pattern j) k
      (λ k. edge g (region iperm_at g.pattern.n w₀) (distance_by root v g u k) j k) (tree_of g.pattern.n w₀ pos₀ d₀ frontier₀ stats)
  pub same : Same g.pattern.n w₀ w pos₀ pos
  pub counts : Kept g.pattern.n frontier₀ frontier
  pub keyed : Keyed d frontier.len 0 (drop (11 * g.pattern.n) w) keys

-- pairs and marks that stay
pub pairs_same : (n : ℕ) (w w' : List ℕ) → region 0 n w' ≡ region 0 n w → region 1 n w' ≡ region 1 n w → pairs_of n w' ≡ pairs_of n w
pairs_same n w w' e f = λ z. record { iperm = e z; jperm = f z; num = matched_count none n (λ j. get_or (f z) j 0) }

pub flagged_same : (n : ℕ) (pos pos' : List ℕ) (popped : List ℕ) → ((i : ℕ) → i < n → eqb (get_or pos' i 0) none ≡ eqb (get_or pos i 0) none)
    → Flagged n pos popped → Flagged n pos' popped
flagged_same n pos pos' popped e F i h = e i h ∙ F i h

module _ (g : CostGraph) (u : List Float) (w₀ pos₀ : List ℕ) (keys₀ d₀ : List Float) (frontier₀ : Frontier) (root : Bool) (v : Float) (j : ℕ)
    (R : ScanReady g u w₀ pos₀ keys₀ d₀ frontier₀ root v j) where
  pub pointers : (start g.pattern j ≤ end g.pattern j) × (end g.pattern j ≤ entries g.pattern) × (length g.pattern.col_ptr ≡ suc g.pattern.n)
  pointers = (
    R.setting.columns.pointers.rises j R.column,
    subst (λ (m : ℕ). end g.pattern j ≤ m) R.setting.columns.pointers.last
        (pointers_rise g.pattern R.setting.columns (suc j) g.pattern.n R.column (omega arith)),
    R.setting.pointer_count,
  )

  pub scan_start : ScanAt g u w₀ pos₀ keys₀ d₀ frontier₀ root v j w₀ pos₀ keys₀ d₀ frontier₀ (start g.pattern j)
  scan_start = record {
    lo = omega arith;
    hi = pointers.0;
    size = refl;
    places = refl;
    key_count = refl;
    d_count = refl;
    tree = λ stats. sym (each_none (start g.pattern j) (λ k. edge g (region iperm_at g.pattern.n w₀) (distance_by root v g u k) j k)
        (tree_of g.pattern.n w₀ pos₀ d₀ frontier₀ stats));
    same = same_words_lem g.pattern.n w₀ pos₀;
    counts = record { popped = refl; touched = λ h. h };
    keyed = R.keyed;
  }

  abbrev t₀ : Tree
  t₀ = tree_of g.pattern.n w₀ pos₀ d₀ frontier₀ R.stats

  abbrev Held : Tree → Type 0
  Held a = Grown Number units_per_one (cost_limit g.pattern.n) g (pairs_of g.pattern.n w₀) u R.r R.rank a × (a.popped ≡ t₀.popped)

  an_edge : (k : ℕ) (a : Tree) → InColumn g.pattern j k → a.popped ≡ t₀.popped → Tree.Edge Number units_per_one (cost_limit g.pattern.n) g
      (pairs_of g.pattern.n w₀) u
      R.r a j k (distance_by root v g u k)
  an_edge k a c e = record { from = rw e R.scanned; entry = c; distance = rw e (R.distance k c) }

  inside : (k : ℕ) → start g.pattern j ≤ k → k < end g.pattern j → InColumn g.pattern j k
  inside k lo hi = record { column = R.column; above = lo; below = hi }

  held_to : (k : ℕ) → start g.pattern j ≤ k → k ≤ end g.pattern j → Held
      (each (start g.pattern j) k (λ k. edge g (region iperm_at g.pattern.n w₀) (distance_by root v g u k) j k) t₀)
  held_to k lo hi =
      each_keeps (λ i a. Held a) (λ k. edge g (region iperm_at g.pattern.n w₀) (distance_by root v g u k) j k) (start g.pattern j) k t₀ lo
      (λ i a l h p.
      let E = an_edge i a (inside i l (omega arith)) p.1 in (
        Tree.edge_keeps R.setting R.matched (heap_laws g.pattern.n) R.free a j i (distance_by root v g u i) E p.0,
        (edge_later R.setting a j i
            (distance_by root v g u i) E p.0).0.popped ∙ p.1,
      ))
      (R.grown, refl)

  module _ (w pos : List ℕ) (keys d : List Float) (frontier : Frontier) (k : ℕ)
      (I : ScanAt g u w₀ pos₀ keys₀ d₀ frontier₀ root v j w pos keys d frontier k) (below : k < end g.pattern j) where
    pub entry_in : (k < entries g.pattern) × (row_of g.pattern k < g.pattern.n) × (length g.cost ≡ entries g.pattern) × (length u ≡ g.pattern.n)
    entry_in = let c = inside k I.lo below in
        (in_entries g.pattern R.setting.columns j k c, row_below g.pattern R.setting.columns j k c, R.setting.cost_count, R.duals)

    held_now : Held (tree_of g.pattern.n w pos d frontier R.stats)
    held_now = rw (I.tree R.stats) (held_to k I.lo I.hi)

    same_pairs : pairs_of g.pattern.n w ≡ pairs_of g.pattern.n w₀
    same_pairs = pairs_same g.pattern.n w₀ w I.same.iperm I.same.jperm

    pub scan_edge : EdgeReady g.pattern.n w pos keys d frontier (row_of g.pattern k) (distance_by root v g u k) j k
    scan_edge =
        edge_ready w pos keys d frontier R.stats R.setting
        (record {
          size = I.size ∙ R.sized.size;
          places = I.places ∙ R.sized.places;
          key_count = I.key_count ∙ R.sized.key_count;
          touched =
              I.counts.touched R.sized.touched;
          popped = rw I.counts.popped R.sized.popped;
        })
        I.keyed
        (flagged_same g.pattern.n pos₀ pos (tree_of g.pattern.n w pos d frontier R.stats).popped I.same.marks (rw held_now.1 R.flagged))
        (subst (Matched g) (sym same_pairs) R.matched) R.r (subst (λ (s : Pairs). at s.jperm R.r ≡ none) (sym same_pairs) R.free) R.rank
        (subst (λ (s : Pairs). Grown Number units_per_one (cost_limit g.pattern.n) g s u R.r R.rank (tree_of g.pattern.n w pos d frontier R.stats))
        (sym same_pairs) held_now.0) j k (distance_by root v g u k)
        (subst (λ (s : Pairs). Tree.Edge Number units_per_one (cost_limit g.pattern.n) g s u R.r (tree_of g.pattern.n w pos d frontier R.stats) j k
        (distance_by root v g u k)) (sym same_pairs) (an_edge k (tree_of g.pattern.n w pos d frontier R.stats) (inside k I.lo below) held_now.1))

    pub scan_turn : (w' pos' : List ℕ) (keys' d' : List Float) (frontier' : Frontier) → length w' ≡ length w → length pos' ≡ length pos
        → length keys' ≡ length keys → length d' ≡ length d → Passes g.pattern.n w w' pos pos' keys' d d' frontier frontier' (row_of g.pattern k)
        (distance_by root v g u k) j k → ScanAt g u w₀ pos₀ keys₀ d₀ frontier₀ root v j w' pos' keys' d' frontier' (k + 1)
    scan_turn w' pos' keys' d' frontier' e ep ek f P = record {
      lo = omega (arith, I.lo);
      hi = omega arith;
      size = e ∙ I.size;
      places = ep ∙ I.places;
      key_count = ek ∙ I.key_count;
      d_count = f ∙ I.d_count;
      tree = λ stats.
          P.tree g stats refl ∙ ap (λ (l : List ℕ). edge g l (distance_by root v g u k) j k (tree_of g.pattern.n w pos d frontier stats)) I.same.iperm
          ∙ ap (edge g (region iperm_at g.pattern.n w₀) (distance_by root v g u k) j k) (I.tree stats)
          ∙ sym (each_more (start g.pattern j) k (λ k. edge g (region iperm_at g.pattern.n w₀) (distance_by root v g u k) j k)
          (tree_of g.pattern.n w₀ pos₀ d₀ frontier₀ stats) I.lo);
      same = record {
        iperm = P.same.iperm ∙ I.same.iperm;
        jperm = P.same.jperm ∙ I.same.jperm;
        marks =
            λ i h. P.same.marks i h ∙ I.same.marks i h;
      };
      counts = record { popped = P.counts.popped ∙ I.counts.popped; touched = λ h. P.counts.touched (I.counts.touched h) };
      keyed = P.keyed;
    }

  pub scan_end : (w pos : List ℕ) (keys d : List Float) (frontier : Frontier) (k : ℕ)
      → ScanAt g u w₀ pos₀ keys₀ d₀ frontier₀ root v j w pos keys d frontier k → end g.pattern j ≤ k
      → Scans g u w₀ w pos₀ pos keys d₀ d frontier₀ frontier root v j
  scan_end w pos keys d frontier k I h = record {
    tree = λ stats. I.tree stats
        ∙ ap (λ (m : ℕ). each (start g.pattern j) m (λ k. edge g (region iperm_at g.pattern.n w₀) (distance_by root v g u k) j k)
        (tree_of g.pattern.n w₀ pos₀ d₀ frontier₀ stats)) (let e : k ≡ end g.pattern j = omega (arith, I.hi) in e);
    same = I.same;
    counts = I.counts;
    keyed = I.keyed;
  }
