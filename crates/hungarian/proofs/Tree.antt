-- What holds of the tree of a search, for any accepted costs: its arrays, the rows that it touched and popped, the column and entry by which each was
-- reached, finite distances.
-- Kept by every edge, whichever way it goes: passed over, a path's end, a row reached anew or nearer.
use mathlib.Core.Path.{◌≡◌, refl, sym, ap, ◌∙◌, subst}
use mathlib.Core.Logic.{inl, inr, ⊎_elim, ◌≢◌}
use mathlib.Core.Bool.{Bool, true, false, cond, ◌||◌, not}
use mathlib.Core.List.{List, [], ◌∷◌, ◌++◌}
use Prim.Native.Nat.{ℕ, suc, ◌+◌, ◌≤◌, ◌<◌}
use native.Mathlib.Decide.{dec_lt, ℕ_discrete}
use native.Mathlib.Omega.{arith}
use borrow.Author.Tests.{eq-eqb, ne_eqb, ltb-true}
use lib.Dec.{T, T_not, eqb, eqb→eq, ltb}
use lib.ListN.{length, set, length-set}
use lib.Seq.{get_or-set_same, get_or-set_other}
use lib.Ieee.{Float, nan, lt, le, eq, of_bits}
use Rattle.limits.specs.Limits.{none}
use Rattle.float64.specs.Number.{Number}
use Rattle.float64.specs.inner.Keys.{position}
use Rattle.float64.specs.Constants.{rinf}
use Rattle.float64.proofs.Constants.{rinf_number}
use Rattle.float64.proofs.Order.{lt_key, eq_key}
use Rattle.float64.proofs.WholeNumbers.{ordered}
use Rattle.matching.proofs.Pairings.{apart}
use Rattle.index_heap.specs.IndexHeap.{Heap, row_at, place_of, update, insert, pop}
use Rattle.index_heap.proofs.Rows.{room_left}
use Rattle.index_heap.specs.inner.Invariant.{Inverse, Within, SameRows, WithRow, WithoutRow, HeapOrder, Comparable}
use Rattle.sparse.specs.Pattern.{row_of, InColumn}
use Rattle.hungarian.specs.Graph.{CostGraph}
use Rattle.hungarian.specs.Counts.{larger}
use Rattle.hungarian.specs.Init.{Pairs}
use Rattle.hungarian.specs.Search.{Tree, among, reach, relax, edge}
use Rattle.hungarian.specs.inner.Setting.{Setting}
use Rattle.hungarian.specs.inner.Bounds.{level}
use Rattle.hungarian.specs.inner.Between.{at, dual, Matched}
use Rattle.hungarian.specs.inner.SearchTree.{Among, Scanned, GoodDistance, Reached, Grown}
use Rattle.sparse.proofs.Columns.{row_below}
use Rattle.hungarian.proofs.Rows.{among_cases, among_stays, among_new, distinct_append}

-- what the heap's steps promise, whatever the keys are
pub record HeapLaws (n : ℕ) : Type 0 where
  pub insert_inverse : (d : List Float) (i : ℕ) (h : Heap) → Inverse n h → i < n → place_of h i ≡ 0 → Inverse n (insert d i h)
  pub insert_rows : (d : List Float) (i : ℕ) (h : Heap) → Inverse n h → i < n → place_of h i ≡ 0 → WithRow i h (insert d i h)
  pub update_inverse : (d : List Float) (i : ℕ) (h : Heap) → Inverse n h → Within h i → Inverse n (update d i h)
  pub update_rows : (d : List Float) (i : ℕ) (h : Heap) → Inverse n h → Within h i → SameRows h (update d i h)
  pub pop_inverse : (d : List Float) (h : Heap) → Inverse n h → 0 < h.len → Inverse n (pop d h)
  pub pop_rows : (d : List Float) (h : Heap) → Inverse n h → 0 < h.len → WithoutRow (row_at h 1) h (pop d h)
  pub insert_order : (d : List Float) (x : Float) (i : ℕ) (h : Heap) → Inverse n h → i < n → place_of h i ≡ 0 → n ≤ length d → HeapOrder d h
      → Comparable (set d i x) (insert (set d i x) i h) → HeapOrder (set d i x) (insert (set d i x) i h)
  pub update_order : (d : List Float) (x : Float) (i : ℕ) (h : Heap) → Inverse n h → Within h i → n ≤ length d → le x (dual d i) ≡ true
      → Comparable d h → Comparable (set d i x) h → HeapOrder d h → HeapOrder (set d i x) (update (set d i x) i h)
  pub pop_order : (d : List Float) (h : Heap) → Inverse n h → 0 < h.len → Comparable d h → HeapOrder d h → HeapOrder d (pop d h)
  pub top_least : (d : List Float) (h : Heap) (i : ℕ) → Inverse n h → Comparable d h → HeapOrder d h → Within h i → le (dual d (row_at h 1)) (dual d i) ≡ true

-- a bound of two sizes bounds the larger
pub larger_most : (a b n : ℕ) → a ≤ n → b ≤ n → larger a b ≤ n
unfolding larger
larger_most a b n h k = go (ltb a b)
  where
    go : (c : Bool) → cond c b a ≤ n
    go true = k
    go false = h

-- ---- one edge
pub finite_apart : (d : Float) → Number d → lt d rinf ≡ true → eq d rinf ≡ false
finite_apart d n h =
    let o = ordered d n in
    let p = ordered rinf rinf_number in
    eq_key d rinf o p ∙ ne_eqb (position d) (position rinf) (λ e. let l = ltb-true (position d) (position rinf) (sym (lt_key d rinf o p) ∙ h) in omega arith)

pub rinf_least : lt rinf rinf ≡ false
unfolding lt of_bits
rinf_least = refl

pub rinf_equal : eq rinf rinf ≡ true
unfolding eq of_bits
rinf_equal = refl

-- no two rows have one column
pub one_row : (g : CostGraph) (s : Pairs) → Matched g s → (i k : ℕ) → i < g.pattern.n → k < g.pattern.n → at s.iperm i ≢ none
    → at s.iperm i ≡ at s.iperm k → i ≡ k
one_row g s m i k a b h e = sym (m.paired.rows i a h).back ∙ ap (λ (j : ℕ). row_of g.pattern (at s.jperm j)) e ∙ (m.paired.rows k b
    (λ z. h (e ∙ z))).back

-- the root is no row's column
pub not_root : (g : CostGraph) (s : Pairs) → Matched g s → (r i : ℕ) → at s.jperm r ≡ none → i < g.pattern.n → at s.iperm i ≢ none → at s.iperm i ≢ r
not_root g s m r i f a h e = (m.paired.rows i a h).taken (ap (at s.jperm) e ∙ f)

-- entry k of the scanned column j, by which its row is x away
pub record Edge (Good : Float → Type 0) (err C : ℕ) (g : CostGraph) (s : Pairs) (u : List Float) (r : ℕ) (t : Tree) (j k : ℕ) (x : Float) : Type 0 where
  pub from : Scanned s r t.popped j
  pub entry : InColumn g.pattern j k
  pub distance : GoodDistance Good err (level C (suc (length t.popped))) u (row_of g.pattern k) x

module _ {Good : Float → Type 0} {err C : ℕ} {g : CostGraph} {s : Pairs} {u : List Float} {r : ℕ} {rank : ℕ → ℕ} (S : Setting Good err C g)
    (M : Matched g s) (H : HeapLaws g.pattern.n) (root : at s.jperm r ≡ none)
    (t : Tree) (j k : ℕ) (x : Float) (E : Edge Good err C g s u r t j k x) (G : Grown Good err C g s u r rank t) where
  pub row : row_of g.pattern k < g.pattern.n
  row = row_below g.pattern S.columns j k E.entry

  -- a path's end
  reach_keeps : at s.iperm (row_of g.pattern k) ≡ none → Grown Good err C g s u r rank (reach x j k t)
  unfolding reach
  reach_keeps f = record {
    d_count = G.d_count;
    pr_count = G.pr_count;
    out_count = G.out_count;
    heap = G.heap;
    reached = G.reached;
    touched_once = G.touched_once;
    popped_once = G.popped_once;
    popped_touched = G.popped_touched;
    heap_touched = G.heap_touched;
    heap_open = G.heap_open;
    touched_in = G.touched_in;
    far = G.far;
    peak_most = G.peak_most;
    root_alone = G.root_alone;
    rank_root = G.rank_root;
    rank_lower = G.rank_lower;
    rank_most = G.rank_most;
    best = inr (record { from = E.from; entry = E.entry; ends = f; distance = E.distance });
  }

  -- ---- a matched row that is not popped is reached at a lower distance
  module _ (matched : at s.iperm (row_of g.pattern k) ≢ none) (open' : Among (row_of g.pattern k) t.popped → ⊥) where
    jj_below : at s.iperm (row_of g.pattern k) < g.pattern.n
    jj_below = (M.paired.rows (row_of g.pattern k) row matched).range

    -- another row's column is another column
    pub elsewhere : (i : ℕ) → i < g.pattern.n → at s.iperm i ≢ none → i ≢ row_of g.pattern k → at s.iperm i ≢ at s.iperm (row_of g.pattern k)
    elsewhere i h m o e = o (one_row g s M i (row_of g.pattern k) h row m e)

    pub pr_same : (l : List ℕ) (a c : ℕ) → c ≢ at s.iperm (row_of g.pattern k) → at (set l (at s.iperm (row_of g.pattern k)) a) c ≡ at l c
    pr_same l a c o = get_or-set_other l (at s.iperm (row_of g.pattern k)) c a 0 o

    -- what was reached before is reached still, but for this row
    others : (i : ℕ) → i ≢ row_of g.pattern k → Reached Good err C g s u r t.popped t.pr t.out t.d i
        → Reached Good err C g s u r t.popped (set t.pr (at s.iperm (row_of g.pattern k)) j) (set t.out (at s.iperm (row_of g.pattern k)) k)
        (set t.d (row_of g.pattern k) x) i
    others i o w =
        let e = elsewhere i w.row w.matched o in
        let p = pr_same t.pr j (at s.iperm i) e in
        let q = pr_same t.out k (at s.iperm i) e in
        record {
          row = w.row;
          matched = w.matched;
          from = rw p w.from;
          entry = rw (p, q) w.entry;
          to = rw q w.to;
          distance =
              rw (get_or-set_other t.d (row_of g.pattern k) i x nan o) w.distance;
        }

    pub pr_here : (l : List ℕ) (a : ℕ) → length l ≡ g.pattern.n → at (set l (at s.iperm (row_of g.pattern k)) a)
        (at s.iperm (row_of g.pattern k)) ≡ a
    pr_here l a h = get_or-set_same l (at s.iperm (row_of g.pattern k)) a 0 (omega (arith, jj_below))

    this : Reached Good err C g s u r t.popped (set t.pr (at s.iperm (row_of g.pattern k)) j) (set t.out (at s.iperm (row_of g.pattern k)) k)
        (set t.d (row_of g.pattern k) x) (row_of g.pattern k)
    this =
        let p = pr_here t.pr j G.pr_count in
        let q = pr_here t.out k G.out_count in
        record {
          row = row;
          matched = matched;
          from = rw p E.from;
          entry = rw (p, q) E.entry;
          to = rw q refl;
          distance =
              rw (get_or-set_same t.d (row_of g.pattern k) x nan (omega (arith, row, G.d_count))) E.distance;
        }

    each_reached : (i : ℕ) → Dec (i ≡ row_of g.pattern k) → (i ≢ row_of g.pattern k → Reached Good err C g s u r t.popped t.pr t.out t.d i)
        → Reached Good err C g s u r t.popped (set t.pr (at s.iperm (row_of g.pattern k)) j) (set t.out (at s.iperm (row_of g.pattern k)) k)
        (set t.d (row_of g.pattern k) x) i
    each_reached i (yes e) f =
        subst (Reached Good err C g s u r t.popped (set t.pr (at s.iperm (row_of g.pattern k)) j)
        (set t.out (at s.iperm (row_of g.pattern k)) k)
        (set t.d (row_of g.pattern k) x)) (sym e) this
    each_reached i (no o) f = others i o (f o)

    -- popped rows keep their columns' parents, and the root has none
    rank_kept : (q : ℕ) → Among q t.popped → rank (at (set t.pr (at s.iperm (row_of g.pattern k)) j) (at s.iperm q)) < rank (at s.iperm q)
    rank_kept q m =
        let w = G.reached q (G.popped_touched q m) in
        rw (pr_same t.pr j (at s.iperm q) (elsewhere q w.row w.matched (λ e. open' (subst (λ (i : ℕ). Among i t.popped) e m))))
        (G.rank_lower q m)

    root_kept : at (set t.pr (at s.iperm (row_of g.pattern k)) j) r ≡ none
    root_kept = pr_same t.pr j r (λ e. not_root g s M r (row_of g.pattern k) root row matched (sym e)) ∙ G.root_alone

    far_kept : (i : ℕ) → i < g.pattern.n → i ≢ row_of g.pattern k → (Among i t.touched → ⊥) → dual (set t.d (row_of g.pattern k) x) i ≡ rinf
    far_kept i h o a = get_or-set_other t.d (row_of g.pattern k) i x nan o ∙ G.far i h a

    -- the row is new: it enters the heap and the rows touched
    module _ (new : Among (row_of g.pattern k) t.touched → ⊥) where
      pub not_within : place_of t.heap (row_of g.pattern k) ≡ 0
      not_within = go (dec_lt 0 (place_of t.heap (row_of g.pattern k)))
        where
          go : Dec (0 < place_of t.heap (row_of g.pattern k)) → place_of t.heap (row_of g.pattern k) ≡ 0
          go (yes p) = absurd (new (G.heap_touched (row_of g.pattern k) p))
          go (no p) = omega arith

      pub grows : WithRow (row_of g.pattern k) t.heap (insert (set t.d (row_of g.pattern k) x) (row_of g.pattern k) t.heap)
      grows = H.insert_rows (set t.d (row_of g.pattern k) x) (row_of g.pattern k) t.heap G.heap row not_within

      pub far_new : dual t.d (row_of g.pattern k) ≡ rinf
      far_new = G.far (row_of g.pattern k) row new

      relax_new : Grown Good err C g s u r rank (relax g s.iperm x j k t)
      unfolding relax
      relax_new = rw (eq-eqb (place_of t.heap (row_of g.pattern k)) 0 not_within, far_new, rinf_equal) (record {
        d_count = length-set t.d (row_of g.pattern k) x ∙ G.d_count;
        pr_count = length-set t.pr (at s.iperm (row_of g.pattern k)) j ∙ G.pr_count;
        out_count = length-set t.out (at s.iperm (row_of g.pattern k)) k ∙ G.out_count;
        heap = H.insert_inverse (set t.d (row_of g.pattern k) x) (row_of g.pattern k) t.heap G.heap row not_within;
        reached = λ i m. each_reached i (ℕ_discrete i (row_of g.pattern k))
            (λ o. ⊎_elim (λ (a : Among i t.touched). G.reached i a) (λ (e : i ≡ row_of g.pattern k). absurd (o e))
            (among_cases i (row_of g.pattern k) t.touched m));
        touched_once = distinct_append (row_of g.pattern k) t.touched G.touched_once new;
        popped_once = G.popped_once;
        popped_touched = λ i m. among_stays i (row_of g.pattern k) t.touched (G.popped_touched i m);
        heap_touched = λ i m. in_new i (ℕ_discrete i (row_of g.pattern k)) m;
        heap_open = λ i m p. open_new i (ℕ_discrete i (row_of g.pattern k)) m p;
        touched_in = λ i m. ⊎_elim
            (λ (a : Among i t.touched). ⊎_elim (λ (p : Among i t.popped). inl p) (λ (h : Within t.heap i). inr (grows.stays i h))
            (G.touched_in i a)) (λ (e : i ≡ row_of g.pattern k). inr
            (subst (Within (insert (set t.d (row_of g.pattern k) x) (row_of g.pattern k) t.heap)) (sym e) grows.enters))
            (among_cases i (row_of g.pattern k) t.touched m);
        far = λ i h a. far_kept i h (λ e. a (subst (λ (q : ℕ). Among q (t.touched ++ (row_of g.pattern k ∷ []))) (sym e)
            (among_new (row_of g.pattern k) t.touched)))
            (λ m. a (among_stays i (row_of g.pattern k) t.touched m));
        peak_most = larger_most t.peak (t.heap.len + 1) g.pattern.n G.peak_most
            (omega (arith, room_left g.pattern.n t.heap (row_of g.pattern k) G.heap row not_within));
        root_alone = root_kept;
        rank_root = G.rank_root;
        rank_lower = rank_kept;
        rank_most = G.rank_most;
        best = G.best;
      })
        where
          in_new : (i : ℕ) → Dec (i ≡ row_of g.pattern k) → Within (insert (set t.d (row_of g.pattern k) x) (row_of g.pattern k) t.heap) i
              → Among i (t.touched ++ (row_of g.pattern k ∷ []))
          in_new i (yes e) m = subst (λ (q : ℕ). Among q (t.touched ++ (row_of g.pattern k ∷ []))) (sym e) (among_new (row_of g.pattern k) t.touched)
          in_new i (no o) m = among_stays i (row_of g.pattern k) t.touched (G.heap_touched i (grows.was i o m))

          open_new : (i : ℕ) → Dec (i ≡ row_of g.pattern k) → Within (insert (set t.d (row_of g.pattern k) x) (row_of g.pattern k) t.heap) i
              → Among i t.popped → ⊥
          open_new i (yes e) m p = open' (subst (λ (q : ℕ). Among q t.popped) e p)
          open_new i (no o) m p = G.heap_open i (grows.was i o m) p

    -- the row is in the heap already: it moves up there
    module _ (known : Among (row_of g.pattern k) t.touched) where
      pub within : Within t.heap (row_of g.pattern k)
      within = ⊎_elim (λ (p : Among (row_of g.pattern k) t.popped). absurd (open' p)) (λ (h : Within t.heap (row_of g.pattern k)). h)
          (G.touched_in (row_of g.pattern k) known)

      pub same : SameRows t.heap (update (set t.d (row_of g.pattern k) x) (row_of g.pattern k) t.heap)
      same = H.update_rows (set t.d (row_of g.pattern k) x) (row_of g.pattern k) t.heap G.heap within

      pub near_not_far : eq (dual t.d (row_of g.pattern k)) rinf ≡ false
      near_not_far = let w = (G.reached (row_of g.pattern k) known).distance.distance in
          finite_apart (dual t.d (row_of g.pattern k)) (S.laws.number (dual t.d (row_of g.pattern k)) w.good) w.finite

      relax_known : Grown Good err C g s u r rank (relax g s.iperm x j k t)
      unfolding relax
      relax_known = rw (ne_eqb (place_of t.heap (row_of g.pattern k)) 0 (λ e. omega (arith, within)), near_not_far) (record {
        d_count = length-set t.d (row_of g.pattern k) x ∙ G.d_count;
        pr_count = length-set t.pr (at s.iperm (row_of g.pattern k)) j ∙ G.pr_count;
        out_count = length-set t.out (at s.iperm (row_of g.pattern k)) k ∙ G.out_count;
        heap = H.update_inverse (set t.d (row_of g.pattern k) x) (row_of g.pattern k) t.heap G.heap within;
        reached = λ i m. each_reached i (ℕ_discrete i (row_of g.pattern k)) (λ o. G.reached i m);
        touched_once = G.touched_once;
        popped_once = G.popped_once;
        popped_touched = G.popped_touched;
        heap_touched = λ i m. G.heap_touched i (same.was i m);
        heap_open = λ i m p. G.heap_open i (same.was i m) p;
        touched_in = λ i m. ⊎_elim (λ (p : Among i t.popped). inl p) (λ (h : Within t.heap i). inr (same.stays i h)) (G.touched_in i m);
        far = λ i h a. far_kept i h (λ e. a (subst (λ (q : ℕ). Among q t.touched) (sym e) known)) a;
        peak_most = G.peak_most;
        root_alone = root_kept;
        rank_root = G.rank_root;
        rank_lower = rank_kept;
        rank_most = G.rank_most;
        best = G.best;
      })

  -- whichever way it goes
  pub edge_keeps : Grown Good err C g s u r rank (edge g s.iperm x j k t)
  unfolding edge
  edge_keeps = go (among (row_of g.pattern k) t.popped) (le t.csp x) (λ a. a) (eqb (at s.iperm (row_of g.pattern k)) none)
      (eqb→eq (at s.iperm (row_of g.pattern k)) none) (apart (at s.iperm (row_of g.pattern k)) none) (lt x (dual t.d (row_of g.pattern k)))
    where
      touched_or_not : (b : Bool) → (T b → Among (row_of g.pattern k) t.touched) → (T (not b) → Among (row_of g.pattern k) t.touched → ⊥)
          → at s.iperm (row_of g.pattern k) ≢ none → (Among (row_of g.pattern k) t.popped → ⊥)
          → Grown Good err C g s u r rank (relax g s.iperm x j k t)
      touched_or_not true f h m o = relax_known m o (f tt)
      touched_or_not false f h m o = relax_new m o (h tt)

      go : (p q : Bool) → (Among (row_of g.pattern k) t.popped → T p) → (f : Bool) → (T f → at s.iperm (row_of g.pattern k) ≡ none)
          → (T (not f) → at s.iperm (row_of g.pattern k) ≢ none) → (l : Bool)
          → Grown Good err C g s u r rank (cond (p || q) t (cond f (reach x j k t) (cond l (relax g s.iperm x j k t) t)))
      go true q a f b c l = G
      go false true a f b c l = G
      go false false a true b c l = reach_keeps (b tt)
      go false false a false b c false = G
      go false false a false b c true = touched_or_not (among (row_of g.pattern k) t.touched) (λ m. m)
          (λ n m. T_not (among (row_of g.pattern k) t.touched) n m) (c tt) a
