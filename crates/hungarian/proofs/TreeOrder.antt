-- What exact sums add to the tree of a search: offsets, shortest distances, and that rows leave the heap by rising distance. Said of keys, where every
-- fact is linear.
-- Kept by every edge.
use mathlib.Core.Path.{◌≡◌, refl, sym, ◌∙◌, subst}
use mathlib.Core.Logic.{inl, inr, ⊎_elim, ◌≢◌}
use mathlib.Core.Bool.{Bool, true, false, cond, ◌||◌, not}
use mathlib.Core.List.{List}
use Prim.Native.Nat.{ℕ, ◌+◌, ◌≤◌, ◌<◌}
use native.Mathlib.Decide.{ℕ_discrete}
use native.Mathlib.Omega.{arith}
use borrow.Author.Tests.{eq-eqb, ne_eqb, ltb-true, ltb-false, leb-true, leb-false, le-leb}
use lib.Dec.{T, T_not, eqb, eqb→eq}
use lib.ListN.{set}
use lib.Seq.{get_or-set_same, get_or-set_other}
use lib.Ieee.{Float, nan, lt, le}
use Rattle.limits.specs.Limits.{none}
use Rattle.float64.specs.inner.Keys.{Ordered, position}
use Rattle.float64.specs.Constants.{rinf}
use Rattle.float64.proofs.Constants.{rinf_number}
use Rattle.float64.proofs.Order.{lt_key, le_key}
use Rattle.float64.proofs.WholeNumbers.{ordered}
use Rattle.index_heap.specs.IndexHeap.{place_of, update, insert}
use Rattle.index_heap.specs.inner.Invariant.{Within, WithRow, SameRows, Comparable}
use Rattle.matching.proofs.Pairings.{apart}
use Rattle.sparse.specs.Pattern.{row_of}
use Rattle.hungarian.specs.Graph.{CostGraph}
use Rattle.hungarian.specs.Init.{Pairs}
use Rattle.hungarian.specs.Search.{Tree, among, reach, relax, edge}
use Rattle.hungarian.specs.inner.Setting.{Setting}
use Rattle.hungarian.specs.inner.Between.{at, dual, Matched}
use Rattle.hungarian.specs.inner.SearchTree.{Among, far_of, dual_of_lem, cost_of_lem, Near, Order, Grown, PathEnd}
use Rattle.hungarian.proofs.Rows.{among_cases}
use Rattle.hungarian.proofs.Tree as Tree

-- t' knows ways that are no longer than t's
pub record Lower (t t' : Tree) : Type 0 where
  pub path : position t'.csp ≤ position t.csp
  pub rows : (i : ℕ) → far_of t' i ≤ far_of t i

pub near_lower : {g : CostGraph} {s : Pairs} {u : List Float} {t t' : Tree} {v k : ℕ} → Lower t t' → Near g s u t v k → Near g s u t' v k
near_lower {g = g} {k = k} l n = record {
  free = λ f. let h = n.free f in omega (arith, l.path);
  matched = λ m. ⊎_elim (λ h. inl (omega (arith, l.rows (row_of g.pattern k)))) (λ h. inr (omega (arith, l.path))) (n.matched m);
}

same_lower : (t : Tree) → Lower t t
same_lower t = record { path = omega arith; rows = λ i. omega arith }

-- what an edge of column j by entry k leaves
pub record Done (g : CostGraph) (s : Pairs) (u : List Float) (r : ℕ) (v : ℕ → ℕ) (top j k : ℕ) (t t' : Tree) : Type 0 where
  pub order : Order g s u r t' v top
  pub here : Near g s u t' (v j) k
  pub lower : Lower t t'

module _ {Good : Float → Type 0} {err C : ℕ} {g : CostGraph} {s : Pairs} {u : List Float} {r : ℕ} {rank : ℕ → ℕ} (S : Setting Good err C g)
    (M : Matched g s) (H : Tree.HeapLaws g.pattern.n) (root : at s.jperm r ≡ none)
    (t : Tree) (j k : ℕ) (x : Float) (E : Tree.Edge Good err C g s u r t j k x) (G : Grown Good err C g s u r rank t)
    (v : ℕ → ℕ) (top : ℕ) (O : Order g s u r t v top) (exactly : position x + dual_of_lem u (row_of g.pattern k) ≡ v j + cost_of_lem g k)
    (high : top ≤ position x) where
  row_in : row_of g.pattern k < g.pattern.n
  row_in = Tree.row S M H root t j k x E G

  number : (y : Float) → Good y → Ordered y
  number y h = ordered y (S.laws.number y h)

  x_ordered : Ordered x
  x_ordered = number x E.distance.distance.good

  path_ordered : Ordered t.csp
  path_ordered = ⊎_elim (λ (e : t.csp ≡ rinf). subst Ordered (sym e) (ordered rinf rinf_number))
      (λ (p : PathEnd Good err C g s u r t.popped t.csp t.isp t.jsp). number t.csp p.distance.distance.good) G.best

  touched_ordered : (i : ℕ) → Among i t.touched → Ordered (dual t.d i)
  touched_ordered i m = number (dual t.d i) (G.reached i m).distance.distance.good

  row_ordered : Ordered (dual t.d (row_of g.pattern k))
  row_ordered = go (among (row_of g.pattern k) t.touched) (λ a. a) (λ n m. T_not (among (row_of g.pattern k) t.touched) n m)
    where
      go : (b : Bool) → (T b → Among (row_of g.pattern k) t.touched) → (T (not b) → Among (row_of g.pattern k) t.touched → ⊥)
          → Ordered (dual t.d (row_of g.pattern k))
      go true f h = touched_ordered (row_of g.pattern k) (f tt)
      go false f h = subst Ordered (sym (G.far (row_of g.pattern k) row_in (h tt))) (ordered rinf rinf_number)

  passed : Near g s u t (v j) k → Done g s u r v top j k t t
  passed n = record { order = O; here = n; lower = same_lower t }

  by_popped : Among (row_of g.pattern k) t.popped → Near g s u t (v j) k
  by_popped m = record {
    free = λ f. absurd ((G.reached (row_of g.pattern k) (G.popped_touched (row_of g.pattern k) m)).matched f);
    matched =
        λ h. inl (omega (arith, O.popped_near (row_of g.pattern k) m));
  }

  by_path : position t.csp ≤ position x → Near g s u t (v j) k
  by_path h = record { free = λ f. omega arith; matched = λ m. inr (omega arith) }

  by_row : at s.iperm (row_of g.pattern k) ≢ none → far_of t (row_of g.pattern k) ≤ position x → Near g s u t (v j) k
  by_row m h = record { free = λ f. absurd (m f); matched = λ n. inl (omega arith) }

  reach_order : at s.iperm (row_of g.pattern k) ≡ none → position x < position t.csp → Done g s u r v top j k t (reach x j k t)
  unfolding reach
  reach_order f h = record {
    order = record {
      root_offset = O.root_offset;
      offset = O.offset;
      exact = O.exact;
      popped_near = O.popped_near;
      heap_far = O.heap_far;
      path_far =
          high;
      path_exact = inr exactly;
      heap_order = O.heap_order;
    };
    here = record { free = λ e. omega arith; matched = λ m. absurd (m f) };
    lower = record { path = omega arith; rows = λ i. omega arith };
  }

  -- ---- a matched row that is not popped is reached at a lower distance
  module _ (matched : at s.iperm (row_of g.pattern k) ≢ none) (open' : Among (row_of g.pattern k) t.popped → ⊥)
      (less : position x < far_of t (row_of g.pattern k)) where
    d_here : dual (set t.d (row_of g.pattern k) x) (row_of g.pattern k) ≡ x
    d_here = get_or-set_same t.d (row_of g.pattern k) x nan (omega (arith, row_in, G.d_count))

    d_other : (i : ℕ) → i ≢ row_of g.pattern k → dual (set t.d (row_of g.pattern k) x) i ≡ dual t.d i
    d_other i o = get_or-set_other t.d (row_of g.pattern k) i x nan o

    lower_rows : (i : ℕ) → Dec (i ≡ row_of g.pattern k) → position (dual (set t.d (row_of g.pattern k) x) i) ≤ far_of t i
    lower_rows i (yes e) = rw (e, d_here) (omega arith)
    lower_rows i (no o) = rw (d_other i o) (omega arith)

    not_popped : (q : ℕ) → Among q t.popped → q ≢ row_of g.pattern k
    not_popped q m e = open' (subst (λ (i : ℕ). Among i t.popped) e m)

    offset_kept : (q : ℕ) → Among q t.popped → v (at s.iperm q) + cost_of_lem g (at s.jperm (at s.iperm q)) ≡ position
        (dual (set t.d (row_of g.pattern k) x) q) + dual_of_lem u q
    offset_kept q m = rw (d_other q (not_popped q m)) (O.offset q m)

    popped_kept : (q : ℕ) → Among q t.popped → position (dual (set t.d (row_of g.pattern k) x) q) ≤ top
    popped_kept q m = rw (d_other q (not_popped q m)) (O.popped_near q m)

    exact_kept : (i : ℕ) → Dec (i ≡ row_of g.pattern k) → (i ≢ row_of g.pattern k → Among i t.touched)
        → position (dual (set t.d (row_of g.pattern k) x) i) + dual_of_lem u i ≡ v
        (at (set t.pr (at s.iperm (row_of g.pattern k)) j) (at s.iperm i)) + cost_of_lem g
        (at (set t.out (at s.iperm (row_of g.pattern k)) k) (at s.iperm i))
    exact_kept i (yes e) f =
        rw (
          e,
          d_here,
          Tree.pr_here S M H root t j k x E G matched open' t.pr j G.pr_count,
          Tree.pr_here S M H root t j k x E G matched open'
              t.out k G.out_count,
        ) exactly
    exact_kept i (no o) f =
        let m = f o in
        let w = G.reached i m in
        let c = Tree.elsewhere S M H root t j k x E G matched open' i w.row w.matched o in
        rw (
          d_other i o,
          Tree.pr_same S M H root t j k x E G matched open' t.pr j (at s.iperm i) c,
          Tree.pr_same S M H root t j k x E G matched open' t.out k (at s.iperm i) c,
        ) (O.exact i m)

    heap_kept : (i : ℕ) → Dec (i ≡ row_of g.pattern k) → (i ≢ row_of g.pattern k → Within t.heap i)
        → top ≤ position (dual (set t.d (row_of g.pattern k) x) i)
    heap_kept i (yes e) f = rw (e, d_here) high
    heap_kept i (no o) f = rw (d_other i o) (O.heap_far i (f o))

    comparable : (i : ℕ) → Dec (i ≡ row_of g.pattern k) → (i ≢ row_of g.pattern k → Within t.heap i)
        → Ordered (dual (set t.d (row_of g.pattern k) x) i)
    comparable i (yes e) f = rw (e, d_here) x_ordered
    comparable i (no o) f = rw (d_other i o) (touched_ordered i (G.heap_touched i (f o)))

    old_comparable : Comparable t.d t.heap
    old_comparable = record { ordered = λ i h. touched_ordered i (G.heap_touched i h) }

    near_here : position (dual (set t.d (row_of g.pattern k) x) (row_of g.pattern k)) + dual_of_lem u (row_of g.pattern k) ≤ v j + cost_of_lem g k
    near_here = rw d_here (omega arith)

    new_order : (new : Among (row_of g.pattern k) t.touched → ⊥) → Done g s u r v top j k t (relax g s.iperm x j k t)
    unfolding relax
    new_order new =
        let n : place_of t.heap (row_of g.pattern k) ≡ 0 = Tree.not_within S M H root t j k x E G matched open' new in
        let w : WithRow (row_of g.pattern k) t.heap
        (insert (set t.d (row_of g.pattern k) x) (row_of g.pattern k) t.heap) = Tree.grows S M H root t j k x E G matched open' new in
        rw (eq-eqb (place_of t.heap (row_of g.pattern k)) 0 n, Tree.far_new S M H root t j k x E G matched open' new, Tree.rinf_equal) (record {
          order = record {
            root_offset = O.root_offset;
            offset = offset_kept;
            exact = λ i m. exact_kept i (ℕ_discrete i (row_of g.pattern k))
                (λ o. ⊎_elim (λ (a : Among i t.touched). a) (λ (e : i ≡ row_of g.pattern k). absurd (o e))
                (among_cases i (row_of g.pattern k) t.touched m));
            popped_near = popped_kept;
            heap_far = λ i h. heap_kept i (ℕ_discrete i (row_of g.pattern k)) (λ o. w.was i o h);
            path_far = O.path_far;
            path_exact = O.path_exact;
            heap_order = H.insert_order t.d x (row_of g.pattern k) t.heap G.heap row_in n (omega (arith, G.d_count)) O.heap_order
                (record { ordered = λ i h. comparable i (ℕ_discrete i (row_of g.pattern k)) (λ o. w.was i o h) });
          };
          here = record { free = λ f. absurd (matched f); matched = λ m. inl near_here };
          lower = record { path = omega arith; rows = λ i. lower_rows i (ℕ_discrete i (row_of g.pattern k)) };
        })

    known_order : (known : Among (row_of g.pattern k) t.touched) → Done g s u r v top j k t (relax g s.iperm x j k t)
    unfolding relax
    known_order known =
        let h : Within t.heap (row_of g.pattern k) = Tree.within S M H root t j k x E G matched open' known in
        let w : SameRows t.heap (update (set t.d (row_of g.pattern k) x) (row_of g.pattern k)
        t.heap) = Tree.same S M H root t j k x E G matched open' known in
        rw (ne_eqb (place_of t.heap (row_of g.pattern k)) 0 (λ e. omega arith), Tree.near_not_far S M H root t j k x E G matched open' known) (record {
          order = record {
            root_offset = O.root_offset;
            offset = offset_kept;
            exact = λ i m. exact_kept i (ℕ_discrete i (row_of g.pattern k)) (λ o. m);
            popped_near = popped_kept;
            heap_far = λ i b. heap_kept i (ℕ_discrete i (row_of g.pattern k)) (λ o. w.was i b);
            path_far = O.path_far;
            path_exact = O.path_exact;
            heap_order = H.update_order t.d x (row_of g.pattern k) t.heap G.heap h (omega (arith, G.d_count))
                (le_key x (dual t.d (row_of g.pattern k)) x_ordered row_ordered ∙ le-leb (position x) (far_of t (row_of g.pattern k))
                (omega arith)) old_comparable
                (record { ordered = λ i b. comparable i (ℕ_discrete i (row_of g.pattern k)) (λ o. b) }) O.heap_order;
          };
          here = record { free = λ f. absurd (matched f); matched = λ m. inl near_here };
          lower = record { path = omega arith; rows = λ i. lower_rows i (ℕ_discrete i (row_of g.pattern k)) };
        })

  -- whichever way it goes
  pub edge_order : Done g s u r v top j k t (edge g s.iperm x j k t)
  unfolding edge
  edge_order =
      go (among (row_of g.pattern k) t.popped) (λ a. a) (λ a. a) (le t.csp x)
      (λ e. leb-true (position t.csp) (position x) (sym (le_key t.csp x path_ordered x_ordered) ∙ e))
      (λ e. leb-false (position t.csp) (position x) (sym (le_key t.csp x path_ordered x_ordered) ∙ e))
      (eqb (at s.iperm (row_of g.pattern k)) none) (eqb→eq (at s.iperm (row_of g.pattern k)) none) (apart (at s.iperm (row_of g.pattern k)) none)
      (lt x (dual t.d (row_of g.pattern k)))
      (λ e. ltb-true (position x) (far_of t (row_of g.pattern k)) (sym (lt_key x (dual t.d (row_of g.pattern k)) x_ordered row_ordered) ∙ e))
      (λ e. ltb-false (position x) (far_of t (row_of g.pattern k)) (sym (lt_key x (dual t.d (row_of g.pattern k)) x_ordered row_ordered) ∙ e))
    where
      touched_or_not : (b : Bool) → (T b → Among (row_of g.pattern k) t.touched) → (T (not b) → Among (row_of g.pattern k) t.touched → ⊥)
          → at s.iperm (row_of g.pattern k) ≢ none → (Among (row_of g.pattern k) t.popped → ⊥) → position x < far_of t (row_of g.pattern k)
          → Done g s u r v top j k t
          (relax g s.iperm x j k t)
      touched_or_not true f h m o l = known_order m o l (f tt)
      touched_or_not false f h m o l = new_order m o l (h tt)

      go : (p : Bool) → (T p → Among (row_of g.pattern k) t.popped) → (Among (row_of g.pattern k) t.popped → T p) → (q : Bool)
          → (q ≡ true → position t.csp ≤ position x)
          → (q ≡ false → position x < position t.csp)
          → (f : Bool) → (T f → at s.iperm (row_of g.pattern k) ≡ none) → (T (not f) → at s.iperm (row_of g.pattern k) ≢ none) → (l : Bool)
          → (l ≡ true → position x < far_of t (row_of g.pattern k)) → (l ≡ false → far_of t (row_of g.pattern k) ≤ position x)
          → Done g s u r v top j k t (cond (p || q) t (cond f (reach x j k t) (cond l (relax g s.iperm x j k t) t)))
      go true a b q c d f e h l m n = passed (by_popped (a tt))
      go false a b true c d f e h l m n = passed (by_path (c refl))
      go false a b false c d true e h l m n = reach_order (e tt) (d refl)
      go false a b false c d false e h false m n = passed (by_row (h tt) (n refl))
      go false a b false c d false e h true m n =
          touched_or_not (among (row_of g.pattern k) t.touched) (λ z. z) (λ y z. T_not (among (row_of g.pattern k) t.touched) y z) (h tt) b (m refl)
