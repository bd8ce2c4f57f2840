-- The duals after a path: bounded again, and tight again where sums are exact. A popped row's dual gains its distance minus the path's cost; the others stay.
use mathlib.Core.Path.{◌≡◌, refl, sym, ap, ◌∙◌, subst}
use mathlib.Core.Logic.{◌⊎◌, inl, inr, ⊎_elim, ◌≢◌}
use mathlib.Core.Bool.{Bool, true, false, not, ◌||◌, true≢false}
use mathlib.Core.List.{List, [], ◌∷◌}
use Prim.Native.Nat.{ℕ, suc, ◌+◌, ◌*◌, ◌≤◌, ◌<◌}
use native.Mathlib.Decide.{ℕ_discrete}
use native.Mathlib.Omega.{arith}
use borrow.Author.Tests.{leb-true, ltb-true}
use lib.Dec.{T, T_not, eqb, eqb→eq}
use lib.ListN.{length, set, length-set}
use lib.Seq.{get_or-set_same, get_or-set_other}
use lib.Ieee.{Float, nan, binary64, add, sub, lt, le}
use lib.Ieee.Fits.{eq→eqb}
use Rattle.limits.specs.Limits.{none}
use Rattle.float64.specs.inner.Keys.{Ordered, position}
use Rattle.float64.specs.inner.Arithmetic.{Apart}
use Rattle.float64.specs.Constants.{rinf}
use Rattle.float64.proofs.Constants.{rinf_number}
use Rattle.float64.proofs.Order.{lt_key, le_key}
use Rattle.float64.proofs.WholeNumbers.{ordered}
use Rattle.index_heap.specs.IndexHeap.{row_at}
use Rattle.index_heap.specs.inner.Invariant.{Within}
use Rattle.index_heap.proofs.Rows.{row_within}
use Rattle.hungarian.specs.declared.HungarianStats.{HungarianStats}
use Rattle.sparse.specs.Pattern.{row_of, end, InColumn}
use Rattle.hungarian.specs.Graph.{CostGraph}
use Rattle.hungarian.specs.Init.{Pairs}
use Rattle.hungarian.specs.Search.{Tree, among, flip, raise}
use Rattle.hungarian.specs.inner.Setting.{Setting}
use Rattle.hungarian.specs.inner.Bounds.{level, Small, dual_bound}
use Rattle.hungarian.specs.inner.Between.{at, dual, Matched, Bounded, Tight}
use Rattle.hungarian.specs.inner.SearchTree.{Among, Distinct, Order, Near, far_of, dual_of_lem, cost_of_lem, Exact, Grown, PathEnd, Reached, Scanned}
use Rattle.hungarian.proofs.Bounds.{level_mono}
use Rattle.hungarian.proofs.Distances.{raised}
use Rattle.sparse.proofs.Columns.{row_below}
use Rattle.hungarian.proofs.Rows.{at_most_all, or_cases, or_l, or_r}
use Rattle.hungarian.proofs.Tree as Tree
use Rattle.hungarian.proofs.Tree.{rinf_least}
use Rattle.hungarian.proofs.TreeGrow.{Searched}
use Rattle.hungarian.proofs.TreeFlip.{Augmented, Taken, flip_augments}

-- what holds of a finite path cost
pub finite_case : {A : Type 0} (x : Float) → lt x rinf ≡ true → (x ≡ rinf) ⊎ A → A
finite_case x e (inl f) = absurd (true≢false (sym e ∙ ap (λ (y : Float). lt y rinf) f ∙ rinf_least))
finite_case x e (inr a) = a

-- ---- the raised duals, row by row
raise_length : (d : List Float) (c : Float) (l : List ℕ) (u : List Float) → length (raise d c l u) ≡ length u
unfolding raise
raise_length d c [] u = refl
raise_length d c (q ∷ l) u = raise_length d c l (set u q (add binary64 (dual u q) (sub binary64 (dual d q) c)))
    ∙ length-set u q (add binary64 (dual u q) (sub binary64 (dual d q) c))

raise_other : (d : List Float) (c : Float) (l : List ℕ) (u : List Float) (i : ℕ) → (Among i l → ⊥) → dual (raise d c l u) i ≡ dual u i
unfolding raise among
raise_other d c [] u i h = refl
raise_other d c (q ∷ l) u i h =
    raise_other d c l (set u q (add binary64 (dual u q) (sub binary64 (dual d q) c))) i (λ m. h (or_r (eqb q i) (among i l) m))
    ∙ get_or-set_other u q i (add binary64 (dual u q) (sub binary64 (dual d q) c)) nan (λ e. h (or_l (eqb q i) (among i l) (eq→eqb (sym e))))

pub raise_at : (d : List Float) (c : Float) (l : List ℕ) (u : List Float) (i : ℕ) → Distinct l → Among i l → i < length u
    → dual (raise d c l u) i ≡ add binary64 (dual u i) (sub binary64 (dual d i) c)
unfolding raise among
raise_at d c [] u i w m h = absurd m
raise_at d c (q ∷ l) u i w m h = go (ℕ_discrete i q) (raise_at d c l (set u q x) i w.1)
  where
    x : Float
    x = add binary64 (dual u q) (sub binary64 (dual d q) c)

    later : i ≢ q → T (eqb q i || among i l) → Among i l
    later o t = ⊎_elim (λ (e : T (eqb q i)). absurd (o (sym (eqb→eq q i e)))) (λ (a : Among i l). a) (or_cases (eqb q i) (among i l) t)

    go : Dec (i ≡ q) → (Among i l → i < length (set u q x) → dual (raise d c l (set u q x)) i ≡ add binary64 (dual (set u q x) i)
        (sub binary64 (dual d i) c)) → dual (raise d c l (set u q x)) i ≡ add binary64 (dual u i) (sub binary64 (dual d i) c)
    go (yes e) f = subst (λ (p : ℕ). dual (raise d c l (set u q x)) p ≡ add binary64 (dual u p) (sub binary64 (dual d p) c)) (sym e)
        (raise_other d c l (set u q x) q w.0 ∙ get_or-set_same u q x nan (subst (λ (p : ℕ). p < length u) e h))
    go (no o) f = f (later o m) (rw (length-set u q x) h) ∙ ap (λ (y : Float). add binary64 y (sub binary64 (dual d i) c)) (get_or-set_other u q i x nan o)

module _ {Good : Float → Type 0} {err C : ℕ} {g : CostGraph} {s : Pairs} {u : List Float} {r : ℕ} {c : HungarianStats} (S : Setting Good err C g)
    (M : Matched g s) (B : Bounded Good C g s u) (H : Tree.HeapLaws g.pattern.n) (root : at s.jperm r ≡ none) (below : r < g.pattern.n)
    (t : Tree) (W : Searched Good err C g s u r c t) (finite : lt t.csp rinf ≡ true)
    (P : PathEnd Good err C g s u r t.popped t.csp t.isp t.jsp) where
  G : Grown Good err C g s u r W.rank t
  G = W.scanning.grown

  abbrev u' : List Float
  u' = raise t.d t.csp t.popped u

  abbrev s' : Pairs
  s' = flip g t t.isp t.jsp s

  A : Augmented g s r t s'
  A = flip_augments S M root below t G P

  few : suc (length t.popped) ≤ g.pattern.n + 1
  few = let h = at_most_all g.pattern.n t.popped G.popped_once (λ i m. (G.reached i (G.popped_touched i m)).row) in omega arith

  wide : {x : Float} → Small Good (level C (suc (length t.popped))) x → Small Good (level C (g.pattern.n + 1)) x
  wide w = let h = level_mono C (suc (length t.popped)) (g.pattern.n + 1) few in
      record { good = w.good; size = record { above = omega (arith, w.size.above); under = omega (arith, w.size.under) } }

  popped_row : (i : ℕ) → Among i t.popped → Reached Good err C g s u r t.popped t.pr t.out t.d i
  popped_row i m = G.reached i (G.popped_touched i m)

  raised_at : (i : ℕ) → Among i t.popped → dual u' i ≡ add binary64 (dual u i) (sub binary64 (dual t.d i) t.csp)
  raised_at i m = raise_at t.d t.csp t.popped u i G.popped_once m (omega (arith, B.dual_count, (popped_row i m).row))

  pub kept_at : (i : ℕ) → (Among i t.popped → ⊥) → dual u' i ≡ dual u i
  kept_at i h = raise_other t.d t.csp t.popped u i h

  -- a free row was not popped
  pub free_kept : (i : ℕ) → at s.iperm i ≡ none → Among i t.popped → ⊥
  free_kept i f m = (popped_row i m).matched f

  gain : (i : ℕ) → Among i t.popped → Small Good (dual_bound g.pattern.n C) (add binary64 (dual u i) (sub binary64 (dual t.d i) t.csp))
      × Apart (2 * err) (2 * (position (add binary64 (dual u i) (sub binary64 (dual t.d i) t.csp)) + position t.csp))
      (2 * (position (dual u i) + position (dual t.d i)))
  gain i m =
      let w = popped_row i m in
      raised S (omega (arith, below)) w.distance.start (dual u i) (dual t.d i) P.distance.start (dual u (row_of g.pattern t.isp)) t.csp
      (wide w.distance.small) (B.small i w.row) w.distance.distance (wide P.distance.small)
      (B.free (row_of g.pattern t.isp) (row_below g.pattern S.columns t.jsp t.isp P.entry) P.ends) P.distance.distance

  pub bounded_after : Bounded Good C g s' u'
  bounded_after = record {
    dual_count = raise_length t.d t.csp t.popped u ∙ B.dual_count;
    small = λ i h. go i h (among i t.popped) (λ a. a) (λ n m. T_not (among i t.popped) n m);
    free = λ i h f. let e = A.flipped.rows_free i h f in rw (kept_at i (free_kept i e)) (B.free i h e);
  }
    where
      go : (i : ℕ) → i < g.pattern.n → (b : Bool) → (T b → Among i t.popped) → (T (not b) → Among i t.popped → ⊥)
          → Small Good (dual_bound g.pattern.n C) (dual u' i)
      go i h true f k = rw (raised_at i (f tt)) (gain i (f tt)).0
      go i h false f k = rw (kept_at i (k tt)) (B.small i h)

  -- ---- exact sums
  module _ (e : Exact err g s u) where
    O : Order g s u r t W.offset W.top
    O = W.scanning.order e

    abbrev v : ℕ → ℕ
    v = W.offset

    pub popped_dual : (i : ℕ) → Among i t.popped → dual_of_lem u' i + position t.csp ≡ dual_of_lem u i + far_of t i
    popped_dual i m = rw (raised_at i m) (let n = (gain i m).1 in let z = e.0 in omega (arith, n.above, n.under))

    not_above : (i : ℕ) → dual_of_lem u' i ≤ dual_of_lem u i
    not_above i = go (among i t.popped) (λ a. a) (λ n m. T_not (among i t.popped) n m)
      where
        go : (b : Bool) → (T b → Among i t.popped) → (T (not b) → Among i t.popped → ⊥) → dual_of_lem u' i ≤ dual_of_lem u i
        go true f k = omega (arith, popped_dual i (f tt), O.popped_near i (f tt), O.path_far)
        go false f k = rw (kept_at i (k tt)) (omega arith)

    number : (y : Float) → Good y → Ordered y
    number y h = ordered y (S.laws.number y h)

    path_ordered : Ordered t.csp
    path_ordered = number t.csp P.distance.distance.good

    heap_ordered : (i : ℕ) → Within t.heap i → Ordered (dual t.d i)
    heap_ordered i h = number (dual t.d i) (G.reached i (G.heap_touched i h)).distance.distance.good

    -- a row that was not popped is no nearer than the path's end
    unpopped_far : (i : ℕ) → i < g.pattern.n → (Among i t.popped → ⊥) → position t.csp ≤ far_of t i
    unpopped_far i h o = go (among i t.touched) (λ a. a) (λ n m. T_not (among i t.touched) n m)
      where
        within_far : Within t.heap i → position t.csp ≤ far_of t i
        within_far w =
            ⊎_elim (λ (z : t.heap.len ≡ 0). let q = (G.heap.held i w).0 in let n : ⊥ = omega arith in absurd n)
            (λ (z : le t.csp (dual t.d (row_at t.heap 1)) ≡ true).
            let first = row_within g.pattern.n t.heap 1 G.heap (omega arith) (let q = (G.heap.held i w).0 in omega arith) in
            let a = leb-true (position t.csp) (far_of t (row_at t.heap 1))
            (sym (le_key t.csp (dual t.d (row_at t.heap 1)) path_ordered (heap_ordered (row_at t.heap 1) first)) ∙ z) in
            let b = leb-true (far_of t (row_at t.heap 1)) (far_of t i)
            (sym (le_key (dual t.d (row_at t.heap 1)) (dual t.d i) (heap_ordered (row_at t.heap 1) first) (heap_ordered i w))
            ∙ H.top_least t.d t.heap i G.heap (record { ordered = heap_ordered }) O.heap_order w) in
            omega arith)
            W.stopped

        go : (b : Bool) → (T b → Among i t.touched) → (T (not b) → Among i t.touched → ⊥) → position t.csp ≤ far_of t i
        go true f k = ⊎_elim (λ (m : Among i t.popped). absurd (o m)) within_far (G.touched_in i (f tt))
        go false f k = rw (G.far i h (k tt))
            (let l = ltb-true (position t.csp) (position rinf) (sym (lt_key t.csp rinf path_ordered (ordered rinf rinf_number)) ∙ finite) in omega arith)

    -- every entry of a scanned column
    entry_after : (j k : ℕ) → Scanned s r t.popped j → InColumn g.pattern j k → position t.csp + dual_of_lem u' (row_of g.pattern k) ≤ v j + cost_of_lem g k
    entry_after j k z w = go (among (row_of g.pattern k) t.popped) (λ a. a) (λ n m. T_not (among (row_of g.pattern k) t.popped) n m)
        (ℕ_discrete (at s.iperm (row_of g.pattern k)) none)
      where
        n : Near g s u t (v j) k
        n = W.scanning.near e j k (z, w, λ q. subst (λ (x : ℕ). k < end g.pattern x) q w.below)

        go : (b : Bool) → (T b → Among (row_of g.pattern k) t.popped) → (T (not b) → Among (row_of g.pattern k) t.popped → ⊥)
            → Dec (at s.iperm (row_of g.pattern k) ≡ none) → position t.csp + dual_of_lem u' (row_of g.pattern k) ≤ v j + cost_of_lem g k
        go true f h q = ⊎_elim (λ l. omega (arith, popped_dual (row_of g.pattern k) (f tt)))
            (λ l. omega (arith, popped_dual (row_of g.pattern k) (f tt), O.popped_near (row_of g.pattern k) (f tt), O.path_far))
            (n.matched (popped_row (row_of g.pattern k) (f tt)).matched)
        go false f h (yes q) = rw (kept_at (row_of g.pattern k) (h tt)) (n.free q)
        go false f h (no q) = rw (kept_at (row_of g.pattern k) (h tt))
            (let l = unpopped_far (row_of g.pattern k) (row_below g.pattern S.columns j k w) (h tt) in
            ⊎_elim (λ x. omega arith) (λ x. x) (n.matched q))

    -- the entry that a scanned column holds afterwards
    popped_after : (q : ℕ) → Among q t.popped → (k : ℕ) → row_of g.pattern k ≡ q → v (at s.iperm q) + cost_of_lem g k ≡ far_of t q + dual_of_lem u q
        → v (at s.iperm q) + cost_of_lem g k ≡ position t.csp + dual_of_lem u' (row_of g.pattern k)
    popped_after q m k f h = rw f (omega (arith, popped_dual q m))

    taken_after : (j k : ℕ) → Taken g s r t j k → v j + cost_of_lem g k ≡ position t.csp + dual_of_lem u' (row_of g.pattern k)
    taken_after j k w = go w.way
      where
        go : ((j ≡ t.jsp) × (k ≡ t.isp)) ⊎ ((q : ℕ) × Among q t.popped × (j ≡ at t.pr (at s.iperm q)) × (k ≡ at t.out (at s.iperm q)))
            → v j + cost_of_lem g k ≡ position t.csp + dual_of_lem u' (row_of g.pattern k)
        go (inl (a, b)) = rw (a, b, kept_at (row_of g.pattern t.isp) (free_kept (row_of g.pattern t.isp) P.ends))
            (sym (finite_case t.csp finite O.path_exact))
        go (inr (q, m, a, b)) = let x = popped_row q m in rw (a, b, x.to) (omega (arith, popped_dual q m, O.exact q (G.popped_touched q m)))

    abbrev k' : ℕ → ℕ
    k' j = at s'.jperm j

    -- tight by the offset of a scanned column
    by_offset : (j k : ℕ) → Scanned s r t.popped j → InColumn g.pattern j k → v j + cost_of_lem g (k' j) ≡ position t.csp + dual_of_lem u'
        (row_of g.pattern (k' j))
        → cost_of_lem g (k' j) + dual_of_lem u' (row_of g.pattern k) ≤ cost_of_lem g k + dual_of_lem u' (row_of g.pattern (k' j))
    by_offset j k z w h = let l = entry_after j k z w in omega arith

    least_after : (j k : ℕ) → InColumn g.pattern j k → k' j ≢ none → cost_of_lem g (k' j) + dual_of_lem u' (row_of g.pattern k) ≤ cost_of_lem g k + dual_of_lem u'
        (row_of g.pattern (k' j))
    least_after j k w h = go (A.flipped.entries j w.column)
      where
        same : k' j ≡ at s.jperm j → cost_of_lem g (k' j) + dual_of_lem u' (row_of g.pattern k) ≤ cost_of_lem g k + dual_of_lem u' (row_of g.pattern (k' j))
        same f = pick (among (row_of g.pattern (at s.jperm j)) t.popped) (λ a. a)
            (λ n m. T_not (among (row_of g.pattern (at s.jperm j)) t.popped) n m)
          where
            held : at s.jperm j ≢ none
            held z = h (f ∙ z)

            back : at s.iperm (row_of g.pattern (at s.jperm j)) ≡ j
            back = (M.paired.columns j w.column held).back

            pick : (b : Bool) → (T b → Among (row_of g.pattern (at s.jperm j)) t.popped)
                → (T (not b) → Among (row_of g.pattern (at s.jperm j)) t.popped → ⊥)
                → cost_of_lem g (k' j) + dual_of_lem u' (row_of g.pattern k) ≤ cost_of_lem g k + dual_of_lem u' (row_of g.pattern (k' j))
            pick true a b =
                let q = row_of g.pattern (at s.jperm j) in
                let o = O.offset q (a tt) in
                by_offset j k (inr (q, a tt, back)) w
                (rw f (subst (λ (i : ℕ). v i + cost_of_lem g (at s.jperm j) ≡ position t.csp + dual_of_lem u' q) back
                (popped_after q (a tt) (at s.jperm j) refl
                (subst (λ (i : ℕ). v (at s.iperm q) + cost_of_lem g (at s.jperm i) ≡ far_of t q + dual_of_lem u q) back o))))
            pick false a b = rw (f, kept_at (row_of g.pattern (at s.jperm j)) (b tt))
                (let l = e.1.least j k w held in let n = not_above (row_of g.pattern k) in omega arith)

        go : (k' j ≡ at s.jperm j) ⊎ Taken g s r t j (k' j) → cost_of_lem g (k' j) + dual_of_lem u' (row_of g.pattern k) ≤ cost_of_lem g k + dual_of_lem u'
            (row_of g.pattern (k' j))
        go (inl f) = same f
        go (inr x) = by_offset j k x.scanned w (taken_after j (k' j) x)

    pub tight_after : Tight g s' u'
    tight_after = record { below = λ k h. let l = e.1.below k h in let n = not_above (row_of g.pattern k) in omega arith; least = least_after }
