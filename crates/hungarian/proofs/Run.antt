-- From search to search: the pairs stay a matching, the duals bounded (and tight where sums are exact), the arrays clean, and a set of columns from
-- which no free row is reached absorbs every column that is searched in vain. One turn is one search, with or without a path; the run is their
-- loop.
use mathlib.Core.Path.{◌≡◌, refl, sym, ap, ◌∙◌, subst}
use mathlib.Core.Logic.{⊎_elim, ◌≢◌}
use mathlib.Core.Bool.{Bool, true, false, cond, not, ◌||◌, true≢false}
use mathlib.Core.List.{List}
use Prim.Native.Nat.{ℕ, zero, suc, ◌+◌, ◌≤◌, ◌<◌, zero-le}
use native.Mathlib.Nat.{suc-mul, eq-or-lt_of_le}
use native.Mathlib.Omega.{arith}
use lib.Dec.{T, eqb, eqb→eq}
use lib.ListN.{length, get_or, replicate, length-replicate, get_or-replicate}
use lib.Ieee.{Float, nan, lt}
use Rattle.limits.specs.Limits.{none}
use Rattle.float64.specs.Constants.{rinf}
use Rattle.index_heap.proofs.Rows.{new}
use Rattle.matching.proofs.Pairings.{closed_union, apart}
use Rattle.hungarian.specs.declared.HungarianStats.{HungarianStats}
use Rattle.hungarian.specs.Graph.{CostGraph}
use Rattle.hungarian.specs.Counts.{counts, column_scanned, search_begun, search_ended, heap_made, rows_popped, heap_seen, larger}
use Rattle.hungarian.specs.Init.{Pairs, Improving}
use Rattle.hungarian.specs.Search.{Tree, flip, raise}
use Rattle.hungarian.specs.Match.{Running, tree_from, settle, augment, pairs_after, duals_after, run_to}
use Rattle.hungarian.specs.inner.Setting.{Setting}
use Rattle.hungarian.specs.inner.Between.{at, Matched, Bounded, Tight}
use Rattle.hungarian.specs.inner.SearchTree.{PathEnd}
use Rattle.hungarian.specs.inner.Runs.{Clean, Counted, Hopeless, Runs}
use Rattle.hungarian.proofs.Loops.{each_keeps}
use Rattle.hungarian.proofs.Rows.{or_l, or_r, at_most_all, at_most_those}
use Rattle.hungarian.proofs.Tree.{rinf_least, larger_most}
use Rattle.hungarian.proofs.HeapSteps.{heap_laws}
use Rattle.hungarian.proofs.TreeGrow.{Searched, search_tree, scanned_by}
use Rattle.hungarian.proofs.TreeFlip.{flip_augments, flip_matched}
use Rattle.hungarian.proofs.TreeDuals.{bounded_after, tight_after}
use Rattle.hungarian.proofs.TreeEnd.{was_scanned, root_scanned, scanned_closed, restore_length, d_clean, heap_clean, scans_most_lem}

module _ {Good : Float → Type 0} {err C : ℕ} {g : CostGraph} {inner : ℕ} (S : Setting Good err C g) (r : ℕ) (x : Running)
    (R : Runs Good err C g inner r x) (below : r < g.pattern.n) (root : at x.pairs.jperm r ≡ none) where
  abbrev t : Tree
  t = tree_from g r x

  W : Searched Good err C g x.pairs x.u r (search_begun x.stats) t
  W = search_tree S (heap_laws g.pattern.n) x r R.matched R.bounded R.clean below root

  clean_after : Clean g (settle g t x)
  unfolding settle
  clean_after =
      let G = W.scanning.grown in
      let h = heap_clean S R.matched t W in
      record {
        d_count = restore_length rinf t.touched t.d ∙ G.d_count;
        far = d_clean S R.matched t W;
        heap = h.0;
        none_within = h.1;
        empty = refl;
        pr_count = G.pr_count;
        out_count = G.out_count;
      }

  -- each row is touched at most once
  touched_most : length t.touched ≤ g.pattern.n
  touched_most = let G = W.scanning.grown in at_most_all g.pattern.n t.touched G.touched_once (λ i m. (G.reached i m).row)

  -- a search pops only rows that it touched
  popped_most : length t.popped ≤ length t.touched
  popped_most = let G = W.scanning.grown in at_most_those g.pattern.n t.popped t.touched G.popped_once G.popped_touched
      (λ i m. (G.reached i m).row)

  counted_after : Counted g inner (settle g t x).stats
  unfolding settle search_ended column_scanned search_begun rows_popped heap_seen
  counted_after =
      let K = R.counted in
      let n = length t.touched in
      let m = scanned_by g x.pairs r t.popped in
      record {
        searches = suc K.searches;
        touches = K.touches + n;
        scans = K.scans + m;
        pops = K.pops + length t.popped;
        peak = larger K.peak t.peak;
        form = ap (λ (c : HungarianStats). heap_seen t.peak (rows_popped (length t.popped) (search_ended n c)))
            (W.counted ∙ ap (λ (c : HungarianStats). column_scanned m (search_begun c)) K.form) ∙ shape K.touches n K.searches;
        touches_most = rw suc-mul (omega (arith, K.touches_most, touched_most));
        scans_most = rw suc-mul (omega (arith, K.scans_most, scans_most_lem S R.matched t W below root));
        pops_most = omega (arith, K.pops_most, popped_most);
        peak_most = larger_most K.peak t.peak g.pattern.n K.peak_most W.scanning.grown.peak_most;
        peak_none = λ e. absurd (let z : ⊥ = omega arith in z);
      }
    where
      shape : (a n b : ℕ) → counts (g.pattern.n + a + n) (b + 1) (a + n) inner (R.counted.scans + scanned_by g x.pairs r t.popped)
          (R.counted.pops + length t.popped) (larger R.counted.peak t.peak) ≡ counts (g.pattern.n + (a + n)) (suc b) (a + n) inner
          (R.counted.scans + scanned_by g x.pairs r t.popped) (R.counted.pops + length t.popped) (larger R.counted.peak t.peak)
      shape a n b = λ i. counts ((let e : g.pattern.n + a + n ≡ g.pattern.n + (a + n) = omega arith in e) i) ((let e : b + 1 ≡ suc b = omega arith in e) i)
          (a + n) inner (R.counted.scans + scanned_by g x.pairs r t.popped) (R.counted.pops + length t.popped) (larger R.counted.peak t.peak)

  -- what is left to show of a search, once its pairs p and duals w are known
  turned : (p : Pairs) (w : List Float) → (settle g t x).pairs ≡ p → (settle g t x).u ≡ w → Matched g p → Bounded Good C g p w
      → (err ≡ 0 → Tight g p w) → Hopeless g p (suc r) → Runs Good err C g inner (suc r) (settle g t x)
  unfolding counted_after
  turned p w e f m b d h = record {
    matched = rw e m;
    bounded = rw (e, f) b;
    clean = clean_after;
    tight = λ z. rw (e, f) (d z);
    hopeless = rw e h;
    counted = counted_after;
    searches_most = (let l = R.searches_most in more l);
  }
    where
      more : R.counted.searches ≤ r → suc R.counted.searches ≤ suc r
      more l = omega arith

  -- without a path the scanned columns join the set
  in_vain : lt t.csp rinf ≡ false → Runs Good err C g inner (suc r) (settle g t x)
  in_vain e =
      turned x.pairs x.u (unfold settle pairs_after in rw e refl) (unfold settle duals_after in rw e refl) R.matched R.bounded R.tight
      (record {
        set = λ j. R.hopeless.set j || was_scanned g x.pairs r t j;
        closed = closed_union R.hopeless.closed (scanned_closed S R.matched t W e);
        holds = λ j h f. ⊎_elim (λ (q : suc j ≡ suc r). or_r (R.hopeless.set j) (was_scanned g x.pairs r t j)
            (subst (λ (i : ℕ). T (was_scanned g x.pairs r t i)) (let z : r ≡ j = omega arith in z) (root_scanned S R.matched t W)))
            (λ (q : suc j < suc r). or_l (R.hopeless.set j) (was_scanned g x.pairs r t j) (R.hopeless.holds j (omega arith) f)) (eq-or-lt_of_le h);
      })

  -- with one the pairs are flipped along it
  with_path : lt t.csp rinf ≡ true → Runs Good err C g inner (suc r) (settle g t x)
  with_path e =
      let G = W.scanning.grown in
      let P = ⊎_elim {C = PathEnd Good err C g x.pairs x.u r t.popped t.csp t.isp t.jsp}
      (λ (f : t.csp ≡ rinf). absurd (true≢false (sym e ∙ ap (λ (y : Float). lt y rinf) f ∙ rinf_least))) (λ p. p) G.best in
      let A = flip_augments S R.matched root below t G P in
      turned (flip g t t.isp t.jsp x.pairs) (raise t.d t.csp t.popped x.u) (unfold settle pairs_after in rw e refl)
      (unfold settle duals_after in rw e refl)
      (flip_matched S R.matched root below t G P) (bounded_after S R.matched R.bounded (heap_laws g.pattern.n) root below t W e P)
      (λ z. tight_after S R.matched R.bounded (heap_laws g.pattern.n) root below t W e P (z, R.tight z))
      (record {
        set = R.hopeless.set;
        closed = A.closed R.hopeless.set R.hopeless.closed;
        holds = λ j h f. ⊎_elim (λ (q : suc j ≡ suc r). absurd
            (A.root_taken (subst (λ (i : ℕ). at (flip g t t.isp t.jsp x.pairs).jperm i ≡ none) (let z : j ≡ r = omega arith in z) f)))
            (λ (q : suc j < suc r). R.hopeless.holds j (omega arith) (A.flipped.columns_free j (omega arith) f)) (eq-or-lt_of_le h);
      })

  one_search : Runs Good err C g inner (suc r) (settle g t x)
  one_search = go (lt t.csp rinf) refl
    where
      go : (b : Bool) → lt t.csp rinf ≡ b → Runs Good err C g inner (suc r) (settle g t x)
      go true e = with_path e
      go false e = in_vain e

-- a column's turn: a search if it is free
pub augment_keeps : {Good : Float → Type 0} {err C : ℕ} {g : CostGraph} {inner : ℕ} → Setting Good err C g → (r : ℕ) (x : Running) → r < g.pattern.n
    → Runs Good err C g inner r x → Runs Good err C g inner (suc r) (augment g r x)
unfolding augment
augment_keeps {Good} {err} {C} {g} {inner} S r x below R =
    go (eqb (at x.pairs.jperm r) none) (eqb→eq (at x.pairs.jperm r) none) (apart (at x.pairs.jperm r) none)
  where
    go : (b : Bool) → (T b → at x.pairs.jperm r ≡ none) → (T (not b) → at x.pairs.jperm r ≢ none) → Runs Good err C g inner (suc r)
        (cond b (settle g (tree_from g r x) x) x)
    go true f h = one_search S r x R below (f tt)
    go false f h = record {
      matched = R.matched;
      bounded = R.bounded;
      clean = R.clean;
      tight = R.tight;
      counted = R.counted;
      searches_most = (let l = R.searches_most in more l);
      hopeless = record {
        set = R.hopeless.set;
        closed = R.hopeless.closed;
        holds = λ j l e. ⊎_elim (λ (q : suc j ≡ suc r). absurd
            (h tt (subst (λ (i : ℕ). at x.pairs.jperm i ≡ none) (let z : j ≡ r = omega arith in z) e)))
            (λ (q : suc j < suc r). R.hopeless.holds j (omega arith) e) (eq-or-lt_of_le l);
      };
    }
      where
        more : R.counted.searches ≤ r → R.counted.searches ≤ suc r
        more l = omega arith

-- ---- the whole run
module _ {Good : Float → Type 0} {err C : ℕ} {g : CostGraph} (S : Setting Good err C g) (s : Improving) (u : List Float) (M : Matched g s.pairs)
    (B : Bounded Good C g s.pairs u) (D : err ≡ 0 → Tight g s.pairs u) (inner : ℕ) (c : s.stats ≡ counts 0 0 0 inner 0 0 0) where
  abbrev first : Running
  first = record {
    pairs = s.pairs;
    u = u;
    d = replicate g.pattern.n rinf;
    heap = record { heap = replicate (g.pattern.n + 1) 0; pos = replicate g.pattern.n 0; len = 0 };
    pr = replicate g.pattern.n none;
    out = replicate g.pattern.n none;
    stats = heap_made g.pattern.n s.stats;
  }

  first_runs : Runs Good err C g inner 0 first
  unfolding heap_made
  first_runs = record {
    matched = M;
    bounded = B;
    tight = D;
    clean = record {
      d_count = length-replicate g.pattern.n rinf;
      far = λ i h. get_or-replicate g.pattern.n i rinf nan h;
      heap = new g.pattern.n;
      none_within = λ i w. let z = zeros g.pattern.n i in omega arith;
      empty = refl;
      pr_count = length-replicate g.pattern.n none;
      out_count = length-replicate g.pattern.n none;
    };
    hopeless = record {
      set = λ j. false;
      closed = record { matched = λ k h z. absurd z; inside = λ k h z. absurd z };
      holds = λ j h f. let n : ⊥ =
          omega arith in absurd n;
    };
    counted = record {
      searches = 0;
      touches = 0;
      scans = 0;
      pops = 0;
      peak = 0;
      form = ap (heap_made g.pattern.n) c ∙ ap (λ (z : ℕ). counts z 0 0 inner 0 0 0) (let e : 0 + g.pattern.n ≡ g.pattern.n + 0 = omega arith in e);
      touches_most = omega arith;
      scans_most = omega arith;
      pops_most = zero-le;
      peak_most = zero-le;
      peak_none = λ e. refl;
    };
    searches_most = omega arith;
  }
    where
      zeros : (m i : ℕ) → ◌≡◌ {A = ℕ} (get_or (replicate m 0) i 0) 0
      zeros zero i = refl
      zeros (suc m) zero = refl
      zeros (suc m) (suc i) = zeros m i

  pub run_keeps : (r : ℕ) → r ≤ g.pattern.n → Runs Good err C g inner r (run_to g u s r)
  unfolding run_to
  run_keeps r h = each_keeps (Runs Good err C g inner) (augment g) 0 r first (omega arith) (λ i x lo hi R. augment_keeps S i x (omega arith) R) first_runs

  -- the search of column r, if it is free by then
  pub search_of : (r : ℕ) → r < g.pattern.n → at (run_to g u s r).pairs.jperm r ≡ none → Searched Good err C g (run_to g u s r).pairs
      (run_to g u s r).u r (search_begun (run_to g u s r).stats) (tree_from g r (run_to g u s r))
  search_of r h f = W S r (run_to g u s r) (run_keeps r (omega arith)) h f

  -- what every turn keeps of the duals
  pub run_duals : (P : List Float → Type 0) → ((i : ℕ) (x : Running) → i < g.pattern.n → Runs Good err C g inner i x → P x.u → P (augment g i x).u)
      → P u → (r : ℕ) → r ≤ g.pattern.n → P (run_to g u s r).u
  unfolding run_to
  run_duals P step p r h = (each_keeps (λ i x. Runs Good err C g inner i x × P x.u) (augment g) 0 r first (omega arith)
      (λ i x lo hi w. (augment_keeps S i x (omega arith) w.0, step i x (omega arith) w.0 w.1)) (first_runs, p)).1
