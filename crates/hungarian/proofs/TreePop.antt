-- The nearest row leaves the heap: what holds of the tree holds with one more popped row, and its column's entries are examined next. The ranks,
-- offsets and the highest popped distance follow.
use mathlib.Core.Path.{◌≡◌, refl, sym, ap, ◌∙◌, subst}
use mathlib.Core.Logic.{◌⊎◌, inl, inr, ⊎_elim, ◌≢◌}
use mathlib.Core.Bool.{false}
use mathlib.Core.List.{List, [], ◌∷◌, ◌++◌}
use Prim.Native.Nat.{ℕ, suc, ◌+◌, ◌-◌, ◌*◌, ◌≤◌, ◌<◌}
use native.Mathlib.Decide.{ℕ_discrete}
use native.Mathlib.Omega.{arith}
use borrow.Author.Tests.{leb-true, leb-false}
use lib.ListN.{length}
use lib.Ieee.{Float, binary64, add, sub, le}
use Rattle.limits.specs.Limits.{none}
use Rattle.float64.specs.Number.{origin}
use Rattle.float64.specs.inner.Keys.{Ordered, position}
use Rattle.float64.specs.inner.Arithmetic.{Apart}
use Rattle.float64.specs.Constants.{rinf}
use Rattle.float64.proofs.Constants.{rinf_number}
use Rattle.float64.proofs.Order.{le_key}
use Rattle.float64.proofs.WholeNumbers.{ordered}
use Rattle.index_heap.specs.IndexHeap.{row_at, place_of, pop}
use Rattle.index_heap.specs.inner.Invariant.{Within, WithoutRow}
use Rattle.matching.specs.Sum.{updated}
use Rattle.matching.proofs.Updated.{updated_same, updated_other}
use Rattle.sparse.specs.Pattern.{row_of, start, end, InColumn}
use Rattle.hungarian.specs.Graph.{CostGraph, cost_of}
use Rattle.hungarian.specs.Init.{Pairs}
use Rattle.hungarian.specs.Counts.{column_scanned}
use Rattle.hungarian.specs.Search.{Tree, extend, scan}
use Rattle.hungarian.specs.inner.Setting.{Setting}
use Rattle.hungarian.specs.inner.Bounds.{level, Small, Distance, Cost}
use Rattle.hungarian.specs.inner.Between.{at, dual, Matched, Bounded}
use Rattle.hungarian.specs.inner.SearchTree.{Among, Order, far_of, dual_of_lem, cost_of_lem, Examined, Scanning, GoodDistance, Grown, PathEnd, Reached, Scanned}
use Rattle.hungarian.proofs.Bounds.{level_mono}
use Rattle.hungarian.proofs.Distances.{Offset, distance, offset, next}
use Rattle.sparse.proofs.Columns.{row_below, in_entries, in_column_lem}
use Rattle.hungarian.proofs.Rows.{among_cases, among_stays, among_new, distinct_append, length_more, at_most_all}
use Rattle.hungarian.proofs.Tree as Tree
use Rattle.hungarian.proofs.TreeCover.{Later}
use Rattle.hungarian.proofs.TreeScan.{Distances, scan_keeps}

-- the tree once row q has left the heap
abbrev pub opened : CostGraph → Pairs → Tree → ℕ → Tree
opened g s t q = record {
  d = t.d;
  heap = pop t.d t.heap;
  pr = t.pr;
  out = t.out;
  touched = t.touched;
  popped = t.popped ++ (q ∷ []);
  csp = t.csp;
  isp = t.isp;
  jsp = t.jsp;
  peak = t.peak;
  stats = column_scanned (end g.pattern (at s.iperm q) - start g.pattern (at s.iperm q)) t.stats;
}

-- a bound of more popped rows holds of fewer
wider : {Good : Float → Type 0} {b c : ℕ} {x : Float} → b ≤ c → Small Good b x → Small Good c x
wider h w = record { good = w.good; size = record { above = omega (arith, w.size.above); under = omega (arith, w.size.under) } }

distance_wider : {Good : Float → Type 0} {err b c : ℕ} {u : List Float} {i : ℕ} {x : Float} → b ≤ c → GoodDistance Good err b u i x
    → GoodDistance Good err c u i x
distance_wider h w = record { start = w.start; small = wider h w.small; distance = w.distance }

module _ {Good : Float → Type 0} {err C : ℕ} {g : CostGraph} {s : Pairs} {u : List Float} {r : ℕ} {rank v : ℕ → ℕ} {top : ℕ} (S : Setting Good err C g)
    (M : Matched g s) (B : Bounded Good C g s u) (H : Tree.HeapLaws g.pattern.n) (root : at s.jperm r ≡ none)
    (now : ℕ) (t : Tree) (I : Scanning Good err C g s u r rank v top now (end g.pattern now) t) (some : 0 < t.heap.len) where
  G : Grown Good err C g s u r rank t
  G = I.grown

  abbrev q : ℕ
  q = row_at t.heap 1

  abbrev j : ℕ
  j = at s.iperm (row_at t.heap 1)

  within : Within t.heap q
  within = let e = G.heap.placed 1 (omega arith) some in omega arith

  known : Among q t.touched
  known = G.heap_touched q within

  unpopped : Among q t.popped → ⊥
  unpopped = G.heap_open q within

  pub here : Reached Good err C g s u r t.popped t.pr t.out t.d q
  here = G.reached q known

  without : WithoutRow q t.heap (pop t.d t.heap)
  without = H.pop_rows t.d t.heap G.heap some

  -- q's column was not scanned before
  fresh : (i : ℕ) → Scanned s r t.popped i → i ≢ j
  fresh i (inl e) f = Tree.not_root g s M r q root here.row here.matched (sym f ∙ e)
  fresh i (inr (p, m, e)) f =
      let w = G.reached p (G.popped_touched p m) in
      unpopped (subst (λ (i : ℕ). Among i t.popped) (Tree.one_row g s M p q w.row here.row w.matched (e ∙ f)) m)

  scanned_more : (i : ℕ) → Scanned s r t.popped i → Scanned s r (t.popped ++ (q ∷ [])) i
  scanned_more i (inl e) = inl e
  scanned_more i (inr (p, m, e)) = inr (p, among_stays p q t.popped m, e)

  level_more : level C (suc (length t.popped)) ≤ level C (suc (length (t.popped ++ (q ∷ []))))
  level_more = level_mono C (suc (length t.popped)) (suc (length (t.popped ++ (q ∷ [])))) (omega (arith, length_more q t.popped))

  rank_same : (i : ℕ) → Scanned s r t.popped i → updated rank j (suc (length t.popped)) i ≡ rank i
  rank_same i z = updated_other rank j (suc (length t.popped)) i (fresh i z)

  rank_here : updated rank j (suc (length t.popped)) j ≡ suc (length t.popped)
  rank_here = updated_same rank j (suc (length t.popped))

  rank_bound : (i : ℕ) → Scanned s r t.popped i → rank i ≤ length t.popped
  rank_bound i (inl e) = rw (e, G.rank_root) (omega arith)
  rank_bound i (inr (p, m, e)) = subst (λ (i : ℕ). rank i ≤ length t.popped) e (G.rank_most p m)

  lower : (p : ℕ) → Among p t.popped ⊎ (p ≡ q) → updated rank j (suc (length t.popped)) (at t.pr (at s.iperm p)) < updated rank j
      (suc (length t.popped)) (at s.iperm p)
  lower p (inl m) =
      let w = G.reached p (G.popped_touched p m) in
      rw (rank_same (at t.pr (at s.iperm p)) w.from, rank_same (at s.iperm p) (inr (p, m, refl))) (G.rank_lower p m)
  lower p (inr e) = rw (e, rank_same (at t.pr j) here.from, rank_here) (let l = rank_bound (at t.pr j) here.from in omega arith)

  most : (p : ℕ) → Among p t.popped ⊎ (p ≡ q) → updated rank j (suc (length t.popped)) (at s.iperm p) ≤ length (t.popped ++ (q ∷ []))
  most p (inl m) = rw (rank_same (at s.iperm p) (inr (p, m, refl))) (omega (arith, G.rank_most p m, length_more q t.popped))
  most p (inr e) = rw (e, rank_here) (omega (arith, length_more q t.popped))

  open_more : (i : ℕ) → Within (pop t.d t.heap) i → Among i (t.popped ++ (q ∷ [])) → ⊥
  open_more i w m = ⊎_elim (λ (a : Among i t.popped). G.heap_open i (without.was i w) a)
      (λ (e : i ≡ q). let z = ap (place_of (pop t.d t.heap)) e ∙ without.leaves in omega arith) (among_cases i q t.popped m)

  touched_in_lem : (i : ℕ) → Dec (i ≡ q) → Among i t.popped ⊎ Within t.heap i → Among i (t.popped ++ (q ∷ [])) ⊎ Within (pop t.d t.heap) i
  touched_in_lem i (yes e) z = inl (subst (λ (p : ℕ). Among p (t.popped ++ (q ∷ []))) (sym e) (among_new q t.popped))
  touched_in_lem i (no o) (inl m) = inl (among_stays i q t.popped m)
  touched_in_lem i (no o) (inr w) = inr (without.stays i o w)

  pub grown_more : Grown Good err C g s u r (updated rank j (suc (length t.popped))) (opened g s t q)
  grown_more = record {
    d_count = G.d_count;
    pr_count = G.pr_count;
    out_count = G.out_count;
    heap = H.pop_inverse t.d t.heap G.heap some;
    reached = λ i m. let w = G.reached i m in
        record {
          row = w.row;
          matched = w.matched;
          from = scanned_more (at t.pr (at s.iperm i)) w.from;
          entry = w.entry;
          to =
              w.to;
          distance = distance_wider level_more w.distance;
        };
    touched_once = G.touched_once;
    popped_once = distinct_append q t.popped G.popped_once unpopped;
    popped_touched = λ i m. ⊎_elim (λ (a : Among i t.popped). G.popped_touched i a)
        (λ (e : i ≡ q). subst (λ (p : ℕ). Among p t.touched) (sym e) known) (among_cases i q t.popped m);
    heap_touched = λ i w. G.heap_touched i (without.was i w);
    heap_open = open_more;
    touched_in = λ i m. touched_in_lem i (ℕ_discrete i q) (G.touched_in i m);
    far = G.far;
    peak_most = G.peak_most;
    root_alone = G.root_alone;
    rank_root = rank_same r (inl refl) ∙ G.rank_root;
    rank_lower = λ p m. lower p (among_cases p q t.popped m);
    rank_most = λ p m. most p (among_cases p q t.popped m);
    best = ⊎_elim (λ (e : t.csp ≡ rinf). inl e)
        (λ (p : PathEnd Good err C g s u r t.popped t.csp t.isp t.jsp). inr
        (record { from = scanned_more t.jsp p.from; entry = p.entry; ends = p.ends; distance = distance_wider level_more p.distance }))
        G.best;
  }

  -- ---- the column of q: its offset, and the distances by its entries
  pub column : j < g.pattern.n
  column = (M.paired.rows q here.row here.matched).range

  -- the entry that the column holds now is q's
  pub own : InColumn g.pattern j (at s.jperm j)
  own =
      let w = M.paired.rows q here.row here.matched in
      let c = M.paired.columns j column w.taken in
      subst (λ (i : ℕ). InColumn g.pattern i (at s.jperm j)) c.column (in_column_lem g.pattern S.columns (at s.jperm j) c.entry)

  own_row : row_of g.pattern (at s.jperm j) ≡ q
  own_row = (M.paired.rows q here.row here.matched).back

  cost : (i k : ℕ) → InColumn g.pattern i k → Cost Good C (cost_of g k)
  cost i k c = let h = in_entries g.pattern S.columns i k c in record { good = S.good k h; low = S.low k h; high = omega (arith, S.high k h) }

  abbrev value : Float
  value = add binary64 (sub binary64 (dual t.d q) (cost_of g (at s.jperm j))) (dual u q)

  -- at most n rows are popped
  pub popped_count : suc (length t.popped) ≤ g.pattern.n
  popped_count =
      let h = at_most_all g.pattern.n (t.popped ++ (q ∷ [])) (distinct_append q t.popped G.popped_once unpopped)
      (λ i m. ⊎_elim (λ (a : Among i t.popped). (G.reached i (G.popped_touched i a)).row) (λ (e : i ≡ q). rw e here.row)
      (among_cases i q t.popped m)) in
      omega (arith, length_more q t.popped)

  positive : 0 < g.pattern.n
  positive = omega (arith, column)

  its_offset : Offset Good err here.distance.start (cost_of g (at s.jperm j)) value
  its_offset = offset S positive (suc (length t.popped)) here.distance.start (dual u q) (dual t.d q) (cost_of g (at s.jperm j))
      (omega (arith, popped_count)) here.distance.small (B.small q here.row) (cost j (at s.jperm j) own) here.distance.distance

  abbrev v' : ℕ → ℕ
  v' = updated v j (position value)

  v_same : (i : ℕ) → Scanned s r t.popped i → v' i ≡ v i
  v_same i z = updated_other v j (position value) i (fresh i z)

  v_here : v' j ≡ position value
  v_here = updated_same v j (position value)

  -- by entry k the next row is `far k` away, over `mark k`
  abbrev mark : ℕ → Float
  mark k = add binary64 value (cost_of g k)

  abbrev far : ℕ → Float
  far k = sub binary64 (add binary64 value (cost_of g k)) (dual u (row_of g.pattern k))

  module _ (k : ℕ) (c : InColumn g.pattern j k) where
    marked : Small Good (level C (suc (suc (length t.popped)))) (mark k) × Apart err (2 * (position (mark k) + origin))
        (2 * (position value + position (cost_of g k)))
    marked = next S positive (suc (length t.popped)) here.distance.start (cost_of g (at s.jperm j)) value (cost_of g k)
        (omega (arith, popped_count)) here.distance.small (cost j (at s.jperm j) own) (cost j k c) its_offset

    far_distance : Distance Good err (mark k) (dual u (row_of g.pattern k)) (far k)
    far_distance = distance S positive (suc (suc (length t.popped))) (mark k) (dual u (row_of g.pattern k)) (omega (arith, popped_count)) marked.0
        (B.small (row_of g.pattern k) (row_below g.pattern S.columns j k c))

    far_exact : err ≡ 0 → position (far k) + dual_of_lem u (row_of g.pattern k) ≡ v' j + cost_of_lem g k
    far_exact e = rw v_here (omega (arith, far_distance.near.above, far_distance.near.under, marked.1.above, marked.1.under))

  value_exact : err ≡ 0 → position value + cost_of_lem g (at s.jperm j) ≡ far_of t q + dual_of_lem u q
  value_exact e = omega (arith, its_offset.near.above, its_offset.near.under, here.distance.distance.near.above, here.distance.distance.near.under)

  pub distances : Distances Good err C g s u v' (far_of t q) (length (t.popped ++ (q ∷ []))) j far
  distances = record {
    distance = λ k c. rw (length_more q t.popped) (record { start = mark k; small = (marked k c).0; distance = far_distance k c });
    exact = λ e k c. far_exact k c e.0;
    high = λ e k c.
        let a = rw v_here at (far_exact k c e.0) in
        let b = value_exact e.0 in
        let l = e.1.least j k c (M.paired.rows q here.row here.matched).taken in
        let o = ap (dual_of_lem u) own_row in
        omega arith;
  }

  -- ---- the order, with q as the farthest popped row
  module _ (nearer : le t.csp (dual t.d q) ≡ false) where
    number : (y : Float) → Good y → Ordered y
    number y h = ordered y (S.laws.number y h)

    heap_ordered : (i : ℕ) → Within t.heap i → Ordered (dual t.d i)
    heap_ordered i h = number (dual t.d i) (G.reached i (G.heap_touched i h)).distance.distance.good

    path_ordered : Ordered t.csp
    path_ordered = ⊎_elim (λ (e : t.csp ≡ rinf). subst Ordered (sym e) (ordered rinf rinf_number))
        (λ (p : PathEnd Good err C g s u r t.popped t.csp t.isp t.jsp). number t.csp p.distance.distance.good) G.best

    below_path : far_of t q < position t.csp
    below_path = leb-false (position t.csp) (far_of t q) (sym (le_key t.csp (dual t.d q) path_ordered (heap_ordered q within)) ∙ nearer)

    order_more : err ≡ 0 → Order g s u r t v top → Order g s u r (opened g s t q) v' (far_of t q)
    order_more e O = record {
      root_offset = v_same r (inl refl) ∙ O.root_offset;
      offset = λ p m. ⊎_elim (λ (a : Among p t.popped). rw (v_same (at s.iperm p) (inr (p, a, refl))) (O.offset p a))
          (λ (f : p ≡ q). rw (f, v_here) (value_exact e)) (among_cases p q t.popped m);
      exact = λ i m. rw (v_same (at t.pr (at s.iperm i)) (G.reached i m).from) (O.exact i m);
      popped_near = λ p m. ⊎_elim (λ (a : Among p t.popped). omega (arith, O.popped_near p a, O.heap_far q within))
          (λ (f : p ≡ q). rw f (omega arith)) (among_cases p q t.popped m);
      heap_far = λ i h. leb-true (far_of t q) (far_of t i)
          (sym (le_key (dual t.d q) (dual t.d i) (heap_ordered q within) (heap_ordered i (without.was i h))) ∙ H.top_least t.d t.heap i
          G.heap (record { ordered = heap_ordered }) O.heap_order (without.was i h));
      path_far = omega (arith, below_path);
      path_exact = path_exact_lem O.path_exact G.best;
      heap_order = H.pop_order t.d t.heap G.heap some (record { ordered = heap_ordered }) O.heap_order;
    }
      where
        path_exact_lem : (t.csp ≡ rinf) ⊎ (position t.csp + dual_of_lem u (row_of g.pattern t.isp) ≡ v t.jsp + cost_of_lem g t.isp) → (t.csp ≡ rinf)
            ⊎ PathEnd Good err C g s u r t.popped t.csp t.isp t.jsp → (t.csp ≡ rinf)
            ⊎ (position t.csp + dual_of_lem u (row_of g.pattern t.isp) ≡ v' t.jsp + cost_of_lem g t.isp)
        path_exact_lem (inl f) z = inl f
        path_exact_lem (inr h) (inl f) = inl f
        path_exact_lem (inr h) (inr p) = inr (rw (v_same t.jsp p.from) h)

    -- an entry that counts as examined now was examined before
    before : (i k : ℕ) → Examined g s r (opened g s t q) j (start g.pattern j) i k → Scanned s r t.popped i × Examined g s r t now
        (end g.pattern now) i k
    before i k (z, c, b) = go (ℕ_discrete i j)
      where
        old : i ≢ j → Scanned s r (t.popped ++ (q ∷ [])) i → Scanned s r t.popped i
        old o (inl e) = inl e
        old o (inr (p, m, e)) = ⊎_elim (λ (a : Among p t.popped). inr (p, a, e)) (λ (f : p ≡ q). absurd (o (sym e ∙ ap (at s.iperm) f)))
            (among_cases p q t.popped m)

        go : Dec (i ≡ j) → Scanned s r t.popped i × Examined g s r t now (end g.pattern now) i k
        go (yes e) = absurd (let f = b e in let h = subst (λ (x : ℕ). start g.pattern x ≤ k) e c.above in let n : ⊥ = omega arith in n)
        go (no o) = let y = old o z in (y, (y, c, λ e. subst (λ (x : ℕ). k < end g.pattern x) e c.below))

    scanning_more : Scanning Good err C g s u r (updated rank j (suc (length t.popped))) v' (far_of t q) j (start g.pattern j) (opened g s t q)
    scanning_more = record {
      grown = grown_more;
      covered = λ i k z. I.covered i k (before i k z).1;
      order = λ e. order_more e.0 (I.order e);
      near = λ e i k z. let b = before i k z in rw (v_same i b.0) (let n = I.near e i k b.1 in record { free = n.free; matched = n.matched });
    }

    pub extend_keeps : Scanning Good err C g s u r (updated rank j (suc (length t.popped))) v' (far_of t q) j (end g.pattern j) (extend g s u t)
        × Later (opened g s t q) (extend g s u t)
    unfolding extend scan
    extend_keeps = scan_keeps S M H root (opened g s t q) j far column (inr (q, among_new q t.popped, refl)) distances scanning_more
