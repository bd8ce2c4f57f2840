-- An entry is examined: the code's order of tests gives what the definition's gives. Distances are compared by their keys; a free row is untouched, so
-- that only the best path's cost rejects an entry to it.
use mathlib.Core.Path.{◌≡◌, refl, sym, ap, ◌∙◌}
use mathlib.Core.Logic.{◌⊎◌, inl, inr, ◌≢◌}
use mathlib.Core.Bool.{Bool, true, false, cond, ◌||◌, true≢false}
use mathlib.Core.List.{List}
use Prim.Native.Nat.{ℕ, ◌+◌, ◌*◌, ◌≤◌, ◌<◌}
use native.Mathlib.Decide.{dec_lt}
use native.Mathlib.Omega.{arith}
use borrow.Author.Tests.{eq-eqb, ne_eqb, lt-ltb, le-ltb, le-leb, lt-leb, ltb-true, ltb-false, leb-true, leb-false}
use lib.Dec.{eqb}
use lib.ListN.{get_or, take}
use lib.Ieee.{Float, nan, lt, le}
use Rattle.limits.specs.Limits.{none}
use Rattle.float64.specs.inner.Keys.{Ordered, position}
use Rattle.float64.proofs.Order.{lt_key, le_key}
use Rattle.hungarian.specs.declared.HungarianStats.{HungarianStats}
use Rattle.sparse.specs.Pattern.{row_of}
use Rattle.hungarian.specs.Graph.{CostGraph}
use Rattle.hungarian.specs.inner.Layout.{region, iperm_at, popped_at}
use Rattle.hungarian.specs.Search.{among, reach, relax, edge}
use Rattle.hungarian.proofs.Regions.{region_at}
use Rattle.hungarian_path.specs.declared.Frontier.{Frontier}
use Rattle.hungarian_path.specs.inner.Views.{tree_of, Same, Kept}
use Rattle.hungarian_path.specs.inner.Steps.{EdgeReady, Relaxes, Passes}

-- row i's column, as the region has it
pub iperm_at_lem : (n : ℕ) (w : List ℕ) (i : ℕ) → i < n → get_or (region iperm_at n w) i 0 ≡ get_or w i 0
iperm_at_lem n w i h = region_at iperm_at n w i 0 h ∙ ap (λ (p : ℕ). get_or w p 0) (let e : iperm_at * n + i ≡ i = omega arith in e)

pub same_words_lem : (n : ℕ) (w pos : List ℕ) → Same n w w pos pos
same_words_lem n w pos = record { iperm = refl; jperm = refl; marks = λ i h. refl }

same_counts : (n : ℕ) (frontier : Frontier) → Kept n frontier frontier
same_counts n frontier = record { popped = refl; touched = λ h. h }

module _ (n : ℕ) (w pos : List ℕ) (keys d : List Float) (frontier : Frontier) (i : ℕ) (x : Float) (j k : ℕ)
    (R : EdgeReady n w pos keys d frontier i x j k) where
  abbrev held : Float
  held = get_or d i nan

  abbrev bound : Float
  bound = cond (lt (get_or d i nan) frontier.csp) (get_or d i nan) frontier.csp

  -- the definition's tests, in its order
  tests : (g : CostGraph) (stats : HungarianStats) → row_of g.pattern k ≡ i → edge g (region iperm_at n w) x j k (tree_of n w pos d frontier stats)
      ≡ cond (among i (take frontier.popped (region popped_at n w)) || le frontier.csp x) (tree_of n w pos d frontier stats)
      (cond (eqb (get_or w i 0) none) (reach x j k (tree_of n w pos d frontier stats))
      (cond (lt x (get_or d i nan)) (relax g (region iperm_at n w) x j k (tree_of n w pos d frontier stats)) (tree_of n w pos d frontier stats)))
  unfolding edge tree_of
  tests g stats e = rw (e, iperm_at_lem n w i R.row) refl

  lower : (b : Bool) → lt (get_or d i nan) frontier.csp ≡ b → (position (cond b (get_or d i nan) frontier.csp) ≤ position (get_or d i nan))
      × (position (cond b (get_or d i nan) frontier.csp) ≤ position frontier.csp)
  lower true e = let l = ltb-true (position (get_or d i nan)) (position frontier.csp) (sym (lt_key (get_or d i nan) frontier.csp R.held R.best) ∙ e) in
      (omega arith, omega arith)
  lower false e = let l = ltb-false (position (get_or d i nan)) (position frontier.csp)
      (sym (lt_key (get_or d i nan) frontier.csp R.held R.best) ∙ e) in
      (omega arith, omega arith)

  either : (b : Bool) → (cond b (get_or d i nan) frontier.csp ≡ get_or d i nan) ⊎ (cond b (get_or d i nan) frontier.csp ≡ frontier.csp)
  either true = inl refl
  either false = inr refl

  bound_ordered : Ordered bound
  bound_ordered = go (either (lt (get_or d i nan) frontier.csp))
    where
      go : (bound ≡ get_or d i nan) ⊎ (bound ≡ frontier.csp) → Ordered bound
      go (inl e) = rw e R.held
      go (inr e) = rw e R.best

  -- ---- no nearer than the row or the best path
  module _ (far : le bound x ≡ true) where
    reaches : position bound ≤ position x
    reaches = leb-true (position bound) (position x) (sym (le_key bound x bound_ordered R.distance) ∙ far)

    why : (le frontier.csp x ≡ true) ⊎ ((eqb (get_or w i 0) none ≡ false) × (lt x (get_or d i nan) ≡ false))
    why = go (dec_lt (position x) (position frontier.csp)) (either (lt (get_or d i nan) frontier.csp))
      where
        go : Dec (position x < position frontier.csp) → (bound ≡ get_or d i nan) ⊎ (bound ≡ frontier.csp) → (le frontier.csp x ≡ true)
            ⊎ ((eqb (get_or w i 0) none ≡ false) × (lt x (get_or d i nan) ≡ false))
        go (no o) e = inl (le_key frontier.csp x R.best R.distance ∙ le-leb (position frontier.csp) (position x) (omega arith))
        go (yes l) (inr e) = let z = ap position e in let f : ⊥ = omega (arith, reaches) in absurd f
        go (yes l) (inl e) =
            let z = ap position e in
            inr (
              ne_eqb (get_or w i 0) none (λ f. let y = ap position (R.free f) in omega (arith, reaches, R.best_most)),
              lt_key x (get_or d i nan) R.distance R.held ∙ le-ltb (position x) (position (get_or d i nan)) (omega (arith, reaches)),
            )

    passed : {A : Type 0} (t a b : A) (p c f l : Bool) → (c ≡ true) ⊎ ((f ≡ false) × (l ≡ false)) → cond (p || c) t (cond f a (cond l b t)) ≡ t
    passed t a b true c f l h = refl
    passed t a b false true f l h = refl
    passed t a b false false f l (inl e) = absurd (true≢false (sym e))
    passed t a b false false f l (inr (e, h)) = rw (e, h) refl

    pub edge_far : Passes n w w pos pos keys d d frontier frontier i x j k
    edge_far = record {
      tree = λ g stats e. sym (tests g stats e ∙ passed (tree_of n w pos d frontier stats) (reach x j k (tree_of n w pos d frontier stats))
          (relax g (region iperm_at n w) x j k (tree_of n w pos d frontier stats)) (among i (take frontier.popped (region popped_at n w)))
          (le frontier.csp x) (eqb (get_or w i 0) none) (lt x (get_or d i nan)) why);
      same = same_words_lem n w pos;
      counts = same_counts n frontier;
      keyed = R.keyed;
    }

  -- ---- nearer than both
  module _ (near : le bound x ≡ false) where
    under : position x < position bound
    under = leb-false (position bound) (position x) (sym (le_key bound x bound_ordered R.distance) ∙ near)

    below_path : le frontier.csp x ≡ false
    below_path = le_key frontier.csp x R.best R.distance ∙ lt-leb (position frontier.csp) (position x)
        (omega (arith, under, lower (lt (get_or d i nan) frontier.csp) refl))

    below_row : lt x (get_or d i nan) ≡ true
    below_row = lt_key x (get_or d i nan) R.distance R.held ∙ lt-ltb (position x) (position (get_or d i nan))
        (omega (arith, under, lower (lt (get_or d i nan) frontier.csp) refl))

    pub edge_popped : get_or pos i 0 ≡ none → Passes n w w pos pos keys d d frontier frontier i x j k
    edge_popped o = record {
      tree = λ g stats e. sym (tests g stats e ∙ rw (sym R.flagged ∙ eq-eqb (get_or pos i 0) none o) refl);
      same =
          same_words_lem n w pos;
      counts = same_counts n frontier;
      keyed = R.keyed;
    }

    module _ (open' : get_or pos i 0 ≢ none) where
      pub unpopped : among i (take frontier.popped (region popped_at n w)) ≡ false
      unpopped = sym R.flagged ∙ ne_eqb (get_or pos i 0) none open'

      reached : (stats : HungarianStats)
          → tree_of n w pos d (record {
            csp = x;
            isp = k;
            jsp = j;
            len = frontier.len;
            touched = frontier.touched;
            popped = frontier.popped;
            peak =
                frontier.peak;
          }) stats ≡ reach x j k (tree_of n w pos d frontier stats)
      unfolding tree_of reach
      reached stats = refl

      pub edge_reach : get_or w i 0 ≡ none → Passes n w w pos pos keys d d frontier
          (record { csp = x; isp = k; jsp = j; len = frontier.len; touched = frontier.touched; popped = frontier.popped; peak = frontier.peak }) i x j k
      edge_reach f = record {
        tree = λ g stats e. reached stats ∙ sym (tests g stats e ∙ rw (unpopped, below_path, eq-eqb (get_or w i 0) none f) refl);
        same = same_words_lem n w pos;
        counts = record { popped = refl; touched = λ h. h };
        keyed = R.keyed;
      }

      pub edge_relax : get_or w i 0 ≢ none → (w' pos' : List ℕ) (keys' d' : List Float) (r : Frontier)
          → Relaxes n w w' pos pos' keys' d d' frontier r i x j k → Passes n w w' pos pos' keys' d d' frontier r i x j k
      edge_relax o w' pos' keys' d' r h =
          record {
            tree = λ g stats e. h.tree g stats e
                ∙ sym (tests g stats e ∙ rw (unpopped, below_path, ne_eqb (get_or w i 0) none o, below_row) refl);
            same = h.same;
            counts =
                h.counts;
            keyed = h.keyed;
          }
