-- The theorems about the whole match: what every search finds, how much work is done, demand 3, and that with whole costs every sum in a search is exact.
use mathlib.Core.Path.{◌≡◌, refl, sym, ap, ◌∙◌, subst}
use mathlib.Core.Logic.{◌↔◌, inl, inr, ⊎_elim}
use mathlib.Core.Bool.{Bool, true, false, cond, true≢false}
use Prim.Native.Nat.{ℕ, ◌*◌, ◌^◌, ◌≤◌, ◌<◌, zero-le}
use native.Mathlib.Nat.{le_refl, le_trans, mul-le-mul_left}
use native.Mathlib.Omega.{arith}
use native.Mathlib.Decide.{dec_le}
use lib.Dec.{T, eqb, eqb→eq}
use lib.Ieee.{Float, lt}
use Rattle.limits.specs.Limits.{none}
use Rattle.float64.specs.Number.{Number, units_per_one, IsWhole}
use Rattle.float64.specs.Constants.{rinf}
use Rattle.matching.proofs.Pairings.{all_matched}
use Rattle.hungarian.specs.declared.HungarianStats.{HungarianStats}
use Rattle.sparse.specs.Pattern.{entries}
use Rattle.hungarian.specs.Graph.{CostGraph}
use Rattle.hungarian.specs.Accepted.{Accepted, Doubles}
use Rattle.hungarian.specs.Counts.{counts, search_begun}
use Rattle.hungarian.specs.Search.{path, no_path, found, Leads}
use Rattle.hungarian.specs.Match.{Matching, tree_from, searched, initial, finish, hungarian_match, state_at}
use Rattle.hungarian.specs.Optimal.{Optimal, WholeCosts, DualsWithin, LargestMatch, amount}
use Rattle.hungarian.specs.Work.{Work}
use Rattle.hungarian.specs.Exact.{ExactSearch}
use Rattle.cost_limit.specs.Range.{cost_limit}
use Rattle.hungarian.specs.inner.Setting.{Setting}
use Rattle.hungarian.specs.inner.Between.{at, Tight}
use Rattle.hungarian.specs.inner.SearchTree.{PathEnd}
use Rattle.hungarian.specs.inner.Runs.{Runs, Hopeless, Counted}
use Rattle.hungarian.proofs.InitRows.{first_duals}
use Rattle.hungarian.proofs.Initial.{initial_matched, initial_bounded, initial_counts, initial_tight}
use Rattle.hungarian.proofs.Tree.{rinf_least}
use Rattle.hungarian.proofs.TreeGrow.{Searched}
use Rattle.hungarian.proofs.TreeEnd.{no_way, a_way}
use Rattle.hungarian.proofs.Run.{run_keeps, search_of}
use Rattle.hungarian.proofs.DualBound.{first_floored, run_floored}
use Rattle.hungarian.proofs.Optimum.{ranged, optimal, within}
use Rattle.hungarian.proofs.ExactSums.{search_exact}
use Rattle.hungarian.proofs.Accepts.{near_setting, whole_setting, below_setting}

module _ {Good : Float → Type 0} {err C : ℕ} {g : CostGraph} (S : Setting Good err C g) (D : err ≡ 0 → Tight g (initial g).pairs (first_duals g)) where
  pub turns : (r : ℕ) → r ≤ g.pattern.n → Runs Good err C g (initial_counts S).0 r (state_at g r)
  turns = run_keeps S (initial g) (first_duals g) (initial_matched S) (initial_bounded S) D (initial_counts S).0 (initial_counts S).1

  -- every search: its tree, with good and bounded distances
  pub searches : (r : ℕ) → r < g.pattern.n → at (state_at g r).pairs.jperm r ≡ none → Searched Good err C g (state_at g r).pairs (state_at g r).u r
      (search_begun (state_at g r).stats) (tree_from g r (state_at g r))
  searches = search_of S (initial g) (first_duals g) (initial_matched S) (initial_bounded S) D (initial_counts S).0 (initial_counts S).1

  -- no path is reported exactly when no alternating path leads from that column to a free row
  decides : (r : ℕ) → r < g.pattern.n → at (state_at g r).pairs.jperm r ≡ none
      → (found (tree_from g r (state_at g r)) ≡ no_path) ↔ (Leads g (state_at g r).pairs.iperm r → ⊥)
  decides r h f = (
    λ e. no_way S (turns r (omega arith)).matched (tree_from g r (state_at g r)) W
        (none_found (lt (tree_from g r (state_at g r)).csp rinf) refl e) h,
    λ n. no_path_lem (lt (tree_from g r (state_at g r)).csp rinf) refl n,
  )
    where
      W : Searched Good err C g (state_at g r).pairs (state_at g r).u r (search_begun (state_at g r).stats) (tree_from g r (state_at g r))
      W = searches r h f

      none_found : (b : Bool) → lt (tree_from g r (state_at g r)).csp rinf ≡ b
          → cond b (path (tree_from g r (state_at g r)).csp (tree_from g r (state_at g r)).isp (tree_from g r (state_at g r)).jsp) no_path ≡ no_path
          → lt (tree_from g r (state_at g r)).csp rinf ≡ false
      none_found false q e = q
      none_found true q e = let z : ◌≡◌ {A = ℕ} 0 1 = cc in let n : ⊥ = omega arith in absurd n

      no_path_lem : (b : Bool) → lt (tree_from g r (state_at g r)).csp rinf ≡ b → (Leads g (state_at g r).pairs.iperm r → ⊥)
          → cond b (path (tree_from g r (state_at g r)).csp (tree_from g r (state_at g r)).isp (tree_from g r (state_at g r)).jsp) no_path ≡ no_path
      no_path_lem false q n = refl
      no_path_lem true q n = absurd (⊎_elim (λ (e : (tree_from g r (state_at g r)).csp ≡ rinf). true≢false (sym q ∙ ap (λ (y : Float). lt y rinf) e ∙ rinf_least))
          (λ (P : PathEnd Good err C g (state_at g r).pairs (state_at g r).u r (tree_from g r (state_at g r)).popped (tree_from g r (state_at g r)).csp
          (tree_from g r (state_at g r)).isp (tree_from g r (state_at g r)).jsp). n
          (a_way S (turns r (omega arith)).matched (tree_from g r (state_at g r)) W P)) W.scanning.grown.best)

-- ---- any accepted graph of doubles
pub exact_start : {Good : Float → Type 0} {err C : ℕ} {g : CostGraph} → Setting Good err C g → err ≡ 0 → Tight g (initial g).pairs (first_duals g)
exact_start {Good} {err} {C} {g} S e = initial_tight (subst (λ (x : ℕ). Setting Good x C g) e S)

-- no path is reported exactly when no alternating path leads from that column to a free row
pub search_decides : (g : CostGraph) → Accepted g → Doubles g → (r : ℕ) → r < g.pattern.n → at (state_at g r).pairs.jperm r ≡ none
    → (found (tree_from g r (state_at g r)) ≡ no_path) ↔ (Leads g (state_at g r).pairs.iperm r → ⊥)
search_decides g a f = let S = near_setting g a f in decides S (exact_start S)

pub match_work : (g : CostGraph) → Accepted g → Doubles g → Work g (hungarian_match g).stats
unfolding hungarian_match finish searched
match_work g a f = go (eqb (initial g).pairs.num g.pattern.n)
  where
    S : Setting Number units_per_one (cost_limit g.pattern.n) g
    S = near_setting g a f

    early : (x : ℕ) → x ≤ entries g.pattern → Work g (counts 0 0 0 x 0 0 0)
    early x h = record {
      inner = h;
      searches = zero-le;
      touched = zero-le;
      scans = zero-le;
      slots = inl refl;
      pops = zero-le;
      pops_touched =
          zero-le;
      heap = zero-le;
      idle = λ e. (refl, refl);
    }

    late : (c : HungarianStats) (x : ℕ) → x ≤ entries g.pattern → (K : Counted g x c) → K.searches ≤ g.pattern.n → Work g c
    late c x h K l = rw K.form
        (record {
          inner = h;
          searches = l;
          touched = K.touches_most;
          scans = K.scans_most;
          slots = inr refl;
          pops =
              le_trans K.pops_most K.touches_most;
          pops_touched = K.pops_most;
          heap = K.peak_most;
          idle = λ e. (none_popped K e, K.peak_none e);
        })
      where
        none_popped : (K : Counted g x c) → K.searches ≡ 0 → K.pops ≡ 0
        none_popped K e = let t : K.touches ≤ 0 * g.pattern.n = subst (λ (z : ℕ). K.touches ≤ z * g.pattern.n) e K.touches_most in
            omega (arith, K.pops_most)

    go : (b : Bool) → Work g
        (cond b (finish g (initial g).pairs (first_duals g) (initial g).stats)
        (finish g (searched g (first_duals g) (initial g)).pairs (searched g (first_duals g) (initial g)).u
        (searched g (first_duals g) (initial g)).stats)).stats
    go true = let c = initial_counts S in rw c.1 (early c.0 c.2)
    go false = let R = turns S (exact_start S) g.pattern.n (le_refl g.pattern.n) in
        late (state_at g g.pattern.n).stats (initial_counts S).0 (initial_counts S).2 R.counted R.searches_most

-- if the start matches every column, none is left to search
nothing_free : {Good : Float → Type 0} {err C : ℕ} {g : CostGraph} → Setting Good err C g → (initial g).pairs.num ≡ g.pattern.n
    → Hopeless g (initial g).pairs g.pattern.n
nothing_free {g = g} S e = record {
  set = λ j. false;
  closed = record { matched = λ k h z. absurd z; inside = λ k h z. absurd z };
  holds = λ j h f. absurd (all_matched none g.pattern.n (at (initial g).pairs.jperm) (sym (initial_matched S).counted ∙ e) j h f);
}

-- the start's pairs are the last ones, or those after the searches are
ends : CostGraph → Bool → Matching
ends g b = cond b (finish g (initial g).pairs (first_duals g) (initial g).stats)
    (finish g (searched g (first_duals g) (initial g)).pairs (searched g (first_duals g) (initial g)).u (searched g (first_duals g) (initial g)).stats)

-- perm's pairs are a largest matching, whatever the costs
pub match_largest : (g : CostGraph) → Accepted g → Doubles g → LargestMatch g.pattern (hungarian_match g)
unfolding hungarian_match searched ends
match_largest g a f = go (eqb (initial g).pairs.num g.pattern.n) (eqb→eq (initial g).pairs.num g.pattern.n)
  where
    S : Setting Number units_per_one (cost_limit g.pattern.n) g
    S = near_setting g a f

    go : (b : Bool) → (T b → (initial g).pairs.num ≡ g.pattern.n) → LargestMatch g.pattern (ends g b)
    go true e = ranged (initial g).stats S (initial_matched S) (initial_bounded S) (nothing_free S (e tt))
    go false e = let R = turns S (exact_start S) g.pattern.n (le_refl g.pattern.n) in
        ranged (state_at g g.pattern.n).stats S R.matched R.bounded R.hopeless

-- ---- demand 3: any accepted graph of whole costs
match_ends : {C : ℕ} (g : CostGraph) → Setting IsWhole 0 C g → Optimal g (hungarian_match g) × DualsWithin (2 * (g.pattern.n * C)) g (hungarian_match g)
unfolding hungarian_match searched ends
match_ends {C} g S = go (eqb (initial g).pairs.num g.pattern.n) (eqb→eq (initial g).pairs.num g.pattern.n)
  where
    go : (b : Bool) → (T b → (initial g).pairs.num ≡ g.pattern.n) → Optimal g (ends g b) × DualsWithin (2 * (g.pattern.n * C)) g (ends g b)
    go true e = let h = nothing_free S (e tt) in (
      optimal (initial g).stats S (initial_matched S) (initial_bounded S) (initial_tight S) h,
      within (initial g).stats S (initial_matched S)
          (initial_bounded S) (initial_tight S) h (first_floored S),
    )
    go false e =
        let R = turns S (exact_start S) g.pattern.n (le_refl g.pattern.n) in (
          optimal (state_at g g.pattern.n).stats S R.matched R.bounded (R.tight refl) R.hopeless,
          within (state_at g g.pattern.n).stats S R.matched
              R.bounded (R.tight refl) R.hopeless (run_floored S g.pattern.n (le_refl g.pattern.n)),
        )

pub match_optimal : (g : CostGraph) → Accepted g → WholeCosts g → Optimal g (hungarian_match g)
match_optimal g a w = (match_ends g (whole_setting g a w)).0

wider : {a b : ℕ} {g : CostGraph} {m : Matching} → a ≤ b → DualsWithin a g m → DualsWithin b g m
wider h d = record { rows = λ i l. le_trans (d.rows i l) h; columns = λ j l. le_trans (d.columns j l) h }

-- the duals are at most 2 n times any limit on the costs, and so at most 2 ^ 50
pub match_within : {C : ℕ} (g : CostGraph) → Setting IsWhole 0 C g → DualsWithin (2 * (g.pattern.n * C)) g (hungarian_match g)
match_within g S = (match_ends g S).1

pub match_small : (g : CostGraph) → Accepted g → WholeCosts g → DualsWithin (2 ^ 50) g (hungarian_match g)
match_small g a w = let S = whole_setting g a w in wider (omega (arith, S.product, S.few_columns)) (match_within g S)

-- the same for any number that all costs are below
pub match_below : (C : ℕ) (g : CostGraph) → Accepted g → WholeCosts g → ((k : ℕ) → k < entries g.pattern → amount g k < C)
    → DualsWithin (2 * (g.pattern.n * C)) g
    (hungarian_match g)
match_below C g a w h = go (dec_le C (cost_limit g.pattern.n))
  where
    S : Setting IsWhole 0 (cost_limit g.pattern.n) g
    S = whole_setting g a w

    go : Dec (C ≤ cost_limit g.pattern.n) → DualsWithin (2 * (g.pattern.n * C)) g (hungarian_match g)
    go (yes l) = match_within g (below_setting S C l h)
    go (no l) = wider (let m : g.pattern.n * cost_limit g.pattern.n ≤ g.pattern.n * C = mul-le-mul_left g.pattern.n (omega arith) in omega arith)
        (match_within g S)

-- with whole costs every sum in the search is exact, in each free column's turn
pub search_sums_exact : (g : CostGraph) → Accepted g → WholeCosts g → (r : ℕ) → r < g.pattern.n → at (state_at g r).pairs.jperm r ≡ none
    → ExactSearch g (state_at g r).pairs (state_at g r).u r (tree_from g r (state_at g r))
search_sums_exact g a w r h f =
    let S = whole_setting g a w in
    let R = turns S (exact_start S) r (omega arith) in
    search_exact S R.matched R.bounded (R.tight refl) f h (tree_from g r (state_at g r)) (searches S (exact_start S) r h f)
