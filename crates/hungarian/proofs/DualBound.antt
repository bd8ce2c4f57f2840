-- Where sums are exact no dual falls below minus 2 n - 1 times the cost limit. A way from the root to a scanned column adds a cost and subtracts one at each
-- step, so its offset is at most as many cost limits from zero as its rank, and there are fewer popped rows than rows, for the path ends in a free one. A
-- popped row's new dual is the difference of two such offsets and two costs, plus the dual of that free row, which is not negative; the others stay.
use mathlib.Core.Path.{◌≡◌, refl, sym, ap, ◌∙◌}
use mathlib.Core.Logic.{inl, inr, ⊎_elim}
use mathlib.Core.Bool.{Bool, true, false, not, cond}
use mathlib.Core.List.{List, ◌∷◌}
use Prim.Native.Nat.{ℕ, zero, suc, ◌+◌, ◌*◌, ◌≤◌, ◌<◌}
use native.Mathlib.Nat.{le_trans, le_of_eq, suc-mul, mul-le-mul_right}
use native.Mathlib.Omega.{arith}
use lib.Dec.{T, T_not, eqb, eqb→eq}
use lib.ListN.{length}
use lib.Ieee.{Float, lt}
use Rattle.limits.specs.Limits.{none}
use Rattle.float64.specs.Number.{units_per_one, origin}
use Rattle.float64.specs.inner.Keys.{position}
use Rattle.float64.specs.inner.Arithmetic.{Apart}
use Rattle.float64.specs.Constants.{rinf}
use Rattle.hungarian.specs.declared.HungarianStats.{HungarianStats}
use Rattle.sparse.specs.Pattern.{row_of, InColumn}
use Rattle.hungarian.specs.Graph.{CostGraph}
use Rattle.hungarian.specs.Counts.{search_begun}
use Rattle.hungarian.specs.Init.{Pairs}
use Rattle.hungarian.specs.Search.{Tree, among, raise}
use Rattle.hungarian.specs.Match.{Running, tree_from, settle, augment, duals_after, initial, state_at}
use Rattle.hungarian.specs.inner.Setting.{Setting}
use Rattle.hungarian.specs.inner.Between.{at, Matched, Bounded, Tight, Floored}
use Rattle.hungarian.specs.inner.SearchTree.{Among, Order, dual_of_lem, cost_of_lem, Grown, PathEnd, Reached, Scanned}
use Rattle.hungarian.specs.inner.Runs.{Runs}
use Rattle.hungarian.proofs.Bounds.{once_at_least}
use Rattle.sparse.proofs.Columns.{in_entries, row_below}
use Rattle.hungarian.proofs.Rows.{at_most_all, or_cases}
use Rattle.hungarian.proofs.HeapSteps.{heap_laws}
use Rattle.hungarian.proofs.TreeGrow.{Searched, search_tree}
use Rattle.hungarian.proofs.TreeDuals.{finite_case, kept_at, free_kept, popped_dual}
use Rattle.hungarian.proofs.InitRows.{first_duals, first_cost}
use Rattle.hungarian.proofs.Initial.{held_entry, initial_matched, initial_bounded, initial_counts, initial_tight}
use Rattle.hungarian.proofs.Run.{run_duals}

-- ---- one search
module _ {Good : Float → Type 0} {C : ℕ} {g : CostGraph} {s : Pairs} {u : List Float} {r : ℕ} {c : HungarianStats} (S : Setting Good 0 C g)
    (M : Matched g s) (B : Bounded Good C g s u) (D : Tight g s u) (root : at s.jperm r ≡ none) (below : r < g.pattern.n)
    (t : Tree) (W : Searched Good 0 C g s u r c t) where
  G : Grown Good 0 C g s u r W.rank t
  G = W.scanning.grown

  O : Order g s u r t W.offset W.top
  O = W.scanning.order (refl, D)

  abbrev unit : ℕ
  unit = C * units_per_one

  abbrev column : ℕ → ℕ
  column q = at s.iperm q

  popped_row : (q : ℕ) → Among q t.popped → Reached Good 0 C g s u r t.popped t.pr t.out t.d q
  popped_row q m = G.reached q (G.popped_touched q m)

  cost_within : (j k : ℕ) → InColumn g.pattern j k → (origin ≤ cost_of_lem g k) × (cost_of_lem g k ≤ origin + unit)
  cost_within j k i = let h = in_entries g.pattern S.columns j k i in (S.low k h, omega (arith, S.high k h))

  -- from the column that reached a popped row to the row's own: a cost more and a cost less
  step : (q : ℕ) → Among q t.popped → Apart unit (W.offset (column q)) (W.offset (at t.pr (column q)))
  step q m =
      let w = popped_row q m in
      let o = M.paired.rows q w.row w.matched in
      let a = cost_within (at t.pr (column q)) (at t.out (column q)) w.entry in
      let b = cost_within (column q) (at s.jperm (column q)) (held_entry S M (column q) o.range o.taken) in
      let x = O.offset q m in
      let y = O.exact q (G.popped_touched q m) in
      record { above = omega (arith, a.0, a.1, b.0, b.1); under = omega (arith, a.0, a.1, b.0, b.1) }

  root_within : (b j : ℕ) → j ≡ r → Apart b (W.offset j) origin
  root_within b j e = let z = ap W.offset e ∙ O.root_offset in record { above = omega arith; under = omega arith }

  -- the offset of a scanned column of a rank up to m
  offset_within : (m j : ℕ) → Scanned s r t.popped j → W.rank j ≤ m → Apart (m * unit) (W.offset j) origin
  offset_within zero j z h = go z
    where
      go : Scanned s r t.popped j → Apart (0 * unit) (W.offset j) origin
      go (inl e) = root_within (0 * unit) j e
      go (inr (q, a, e)) = let z = G.rank_lower q a in let n : ⊥ = omega (arith, ap W.rank e) in absurd n
  offset_within (suc m) j z h = go z (offset_within m)
    where
      go : Scanned s r t.popped j → ((i : ℕ) → Scanned s r t.popped i → W.rank i ≤ m → Apart (m * unit) (W.offset i) origin)
          → Apart (suc m * unit) (W.offset j) origin
      go (inl e) before = root_within (suc m * unit) j e
      go (inr (q, a, e)) before =
          let i = before (at t.pr (column q)) (popped_row q a).from (let z = G.rank_lower q a in omega (arith, ap W.rank e)) in
          let p = step q a in
          let f = ap W.offset e in
          let k = suc-mul m unit in
          record { above = omega (arith, i.above, p.above); under = omega (arith, i.under, p.under) }

  -- ---- with a path
  module _ (finite : lt t.csp rinf ≡ true) (P : PathEnd Good 0 C g s u r t.popped t.csp t.isp t.jsp) where
    abbrev u' : List Float
    u' = raise t.d t.csp t.popped u

    abbrev last : ℕ
    last = row_of g.pattern t.isp

    last_below : last < g.pattern.n
    last_below = row_below g.pattern S.columns t.jsp t.isp P.entry

    few : suc (length t.popped) ≤ g.pattern.n
    unfolding among
    few = at_most_all g.pattern.n (last ∷ t.popped) (free_kept S M B (heap_laws g.pattern.n) root below t W finite P last P.ends, G.popped_once)
        (λ i m. ⊎_elim (λ (e : T (eqb last i)). rw (← eqb→eq last i e) last_below) (λ (a : Among i t.popped). (popped_row i a).row)
        (or_cases (eqb last i) (among i t.popped) m))

    jsp_rank : Scanned s r t.popped t.jsp → W.rank t.jsp ≤ length t.popped
    jsp_rank (inl e) = omega (arith, ap W.rank e, G.rank_root)
    jsp_rank (inr (q, m, e)) = omega (arith, ap W.rank e, G.rank_most q m)

    popped_low : (q : ℕ) → Among q t.popped → origin + unit ≤ dual_of_lem u' q + 2 * (g.pattern.n * unit)
    popped_low q m =
        let w = popped_row q m in
        let start = offset_within (length t.popped) (at t.pr (column q)) w.from (omega (arith, G.rank_lower q m, G.rank_most q m)) in
        let end = offset_within (length t.popped) t.jsp P.from (jsp_rank P.from) in
        let a = cost_within (at t.pr (column q)) (at t.out (column q)) w.entry in
        let b = cost_within t.jsp t.isp P.entry in
        let f = B.free last last_below P.ends in
        let l : length t.popped * unit + unit ≤ g.pattern.n * unit = le_trans (le_of_eq (sym (suc-mul (length t.popped) unit)))
        (mul-le-mul_right unit few) in
        let x = popped_dual S M B (heap_laws g.pattern.n) root below t W finite P (refl, D) q m in
        let y = O.exact q (G.popped_touched q m) in
        let z : position t.csp + dual_of_lem u last ≡ W.offset t.jsp + cost_of_lem g t.isp = finite_case t.csp finite O.path_exact in
        omega (arith, start.under, end.above, a.0, b.1, f.low)

    pub floored_after : Floored C g u → Floored C g u'
    floored_after L = record { low = λ i h. go i h (among i t.popped) (λ a. a) (λ n m. T_not (among i t.popped) n m) }
      where
        go : (i : ℕ) → i < g.pattern.n → (b : Bool) → (T b → Among i t.popped) → (T (not b) → Among i t.popped → ⊥)
            → origin + unit ≤ dual_of_lem u' i + 2 * (g.pattern.n * unit)
        go i h true f k = popped_low i (f tt)
        go i h false f k = rw (kept_at S M B (heap_laws g.pattern.n) root below t W finite P i (k tt)) (L.low i h)

-- ---- a column's turn
module _ {Good : Float → Type 0} {C : ℕ} {g : CostGraph} {inner : ℕ} (S : Setting Good 0 C g) (r : ℕ) (x : Running) (below : r < g.pattern.n)
    (R : Runs Good 0 C g inner r x) (L : Floored C g x.u) where
  abbrev t : Tree
  t = tree_from g r x

  settled : at x.pairs.jperm r ≡ none → Floored C g (settle g t x).u
  settled root = go (lt t.csp rinf) refl
    where
      W : Searched Good 0 C g x.pairs x.u r (search_begun x.stats) t
      W = search_tree S (heap_laws g.pattern.n) x r R.matched R.bounded R.clean below root

      go : (b : Bool) → lt t.csp rinf ≡ b → Floored C g (settle g t x).u
      go true e =
          let same : (settle g t x).u ≡ raise t.d t.csp t.popped x.u = unfold settle duals_after in rw e refl in
          rw same (floored_after S R.matched R.bounded (R.tight refl) root below t W e (finite_case t.csp e W.scanning.grown.best) L)
      go false e = let same : (settle g t x).u ≡ x.u = unfold settle duals_after in rw e refl in rw same L

  turn_floored : Floored C g (augment g r x).u
  unfolding augment
  turn_floored = go (eqb (at x.pairs.jperm r) none) (eqb→eq (at x.pairs.jperm r) none)
    where
      go : (b : Bool) → (T b → at x.pairs.jperm r ≡ none) → Floored C g (cond b (settle g (tree_from g r x) x) x).u
      go true f = settled (f tt)
      go false f = L

-- ---- the whole run
module _ {Good : Float → Type 0} {C : ℕ} {g : CostGraph} (S : Setting Good 0 C g) where
  pub first_floored : Floored C g (first_duals g)
  first_floored = record { low = λ i h. let n = once_at_least g.pattern.n (C * units_per_one) (omega arith) in omega (arith, (first_cost S i h).low) }

  pub run_floored : (r : ℕ) → r ≤ g.pattern.n → Floored C g (state_at g r).u
  run_floored = run_duals S (initial g) (first_duals g) (initial_matched S) (initial_bounded S) (λ z. initial_tight S) (initial_counts S).0
      (initial_counts S).1 (Floored C g) (λ i x h R L. turn_floored S i x h R L) first_floored
