-- The check accepts exactly what is certified, and a certified pairing is a complete matching of least total, whoever made it: the duals are
-- potentials, moved up by 2 ^ 50 so that they are natural numbers. Nothing of a search is used.
use mathlib.Core.Path.{◌≡◌, refl, sym, ap, ◌∙◌, subst}
use mathlib.Core.Bool.{Bool, true, false, not, ◌||◌}
use Prim.Native.Nat.{ℕ, ◌+◌, ◌-◌, ◌^◌, ◌≤◌, ◌<◌}
use native.Mathlib.Omega.{arith}
use borrow.Author.Tests.{leb-true, eq-eqb, eqb-true}
use lib.Dec.{T, eqb, eqb→eq}
use lib.IntN.{ℤ, ◌+ℤ◌}
use lib.Signed.{le_z, le_z_yes, ≤ℤ_refl}
use lib.ListN.{length, get_or}
use lib.Ieee.{Float, nan, binary64, fits, add, le}
use lib.Ieee.Bits.{is_true}
use lib.Ieee.Fits.{eq→eqb}
use Rattle.refusal.specs.Refusal.{incomplete_matching, infeasible_duals, loose_pair}
use Rattle.float64.specs.Number.{whole_of, IsWhole}
use Rattle.float64.proofs.Integers.{plus, minus, same_integer, sum_parts, at_most_parts}
use Rattle.cost_limit.specs.Range.{cost_limit}
use Rattle.slices.proofs.Bools.{both}
use Rattle.sparse.specs.Fault.{unless}
use Rattle.sparse.proofs.First.{or-zero, unless_holds}
use Rattle.matching.specs.Matching.{LeastTotal}
use Rattle.matching.specs.Pairing.{paired_entries}
use Rattle.matching.proofs.Matchings.{least_total}
use Rattle.sparse.specs.Pattern.{bipartite, row_of, column_of, entries, start, end, InColumn}
use Rattle.hungarian.specs.Graph.{CostGraph, cost_of}
use Rattle.hungarian.specs.Accepted.{Accepted}
use Rattle.hungarian.specs.Optimal.{WholeCosts, amount}
use Rattle.hungarian.specs.inner.Setting.{Setting}
use Rattle.hungarian.proofs.Accepts.{whole_setting}
use Rattle.sparse.proofs.Columns.{in_column_lem, in_range_lem, in_entries, column-is, row_below}
use Rattle.match_check.specs.Check.{Claim, row_for, row_dual, column_dual, small_whole, small_wholes, duals_hold, pairing_fits, sum_below, column_below}
use Rattle.match_check.specs.Check.{sums_below, sum_reached, column_reached, sums_reached, claim_fault}
use Rattle.match_check.specs.Call.{FitDual, Certified, pairs}
use Rattle.match_check.proofs.Every.{every_span, every_first, first_every, span_every}
use Rattle.match_check.proofs.Pairing.{complete, complete_passes}
use Rattle.match_check.proofs.Wholes.{fit_dual, dual_fit, sum_at_most, sum_at_least, sides, no_minus}

-- an order of integers, of their parts
parts_below : (x y : ℤ) → T (le_z x y) → plus x + minus y ≤ plus y + minus x
parts_below x y t = leb-true (plus x + minus y) (plus y + minus x) (sym (at_most_parts x y) ∙ is_true (le_z x y) t)

-- ---- a certified pairing is of least total
module _ (g : CostGraph) (s : Claim) (c : Certified g s) where
  setting : Setting IsWhole 0 (cost_limit g.pattern.n) g
  setting = whole_setting g c.graph c.costs

  -- a dual moved up
  up : Float → ℕ
  up x = 2 ^ 50 + plus (whole_of x) - minus (whole_of x)

  module _ (k : ℕ) (h : k < entries g.pattern) where
    column : InColumn g.pattern (column_of g.pattern k) k
    column = in_column_lem g.pattern setting.columns k h

    row : FitDual (row_dual s (row_of g.pattern k))
    row = c.rows (row_of g.pattern k) (row_below g.pattern setting.columns (column_of g.pattern k) k column)

    col : FitDual (column_dual s (column_of g.pattern k))
    col = c.columns (column_of g.pattern k) column.column

    nonneg : minus (whole_of (cost_of g k)) ≡ 0
    nonneg = no_minus (cost_of g k) (c.costs k h) (setting.low k h)

    amount-is : amount g k ≡ plus (whole_of (cost_of g k))
    unfolding amount
    amount-is = omega (arith, sides (whole_of (cost_of g k)), nonneg)

    below : up (row_dual s (row_of g.pattern k)) + up (column_dual s (column_of g.pattern k)) ≤ amount g k + 2 ^ 51
    unfolding up
    below =
        let a = parts_below (whole_of (row_dual s (row_of g.pattern k)) +ℤ whole_of (column_dual s (column_of g.pattern k))) (whole_of (cost_of g k))
        (c.feasible k h).le in
        omega (
          arith,
          a,
          amount-is,
          nonneg,
          sum_parts (whole_of (row_dual s (row_of g.pattern k))) (whole_of (column_dual s (column_of g.pattern k))),
          sides (whole_of (row_dual s (row_of g.pattern k))),
          sides (whole_of (column_dual s (column_of g.pattern k))),
          row.size,
          col.size,
        )

    tight : T (pairs g.pattern s k) → up (row_dual s (row_of g.pattern k)) + up (column_dual s (column_of g.pattern k)) ≡ amount g k + 2 ^ 51
    unfolding up
    tight t =
        omega (
          arith,
          ap plus (c.tight k h t),
          ap minus (c.tight k h t),
          amount-is,
          nonneg,
          sum_parts (whole_of (row_dual s (row_of g.pattern k)))
              (whole_of (column_dual s (column_of g.pattern k))),
          sides (whole_of (row_dual s (row_of g.pattern k))),
          sides (whole_of (column_dual s (column_of g.pattern k))),
          row.size,
          col.size,
        )

  pub certified_least : LeastTotal (bipartite g.pattern) (amount g) (pairs g.pattern s)
  certified_least = least_total {a = λ i. up (row_dual s i)} {b = λ j. up (column_dual s j)} {m = 2 ^ 51} (in_range_lem g.pattern setting.columns) c.complete
      (record { below = below; tight = tight })

-- ---- what is tested, and what is certified
-- the doubles of a claim
pub record Doubled (s : Claim) : Type 0 where
  pub rows : (i : ℕ) → T (fits binary64 (row_dual s i))
  pub columns : (j : ℕ) → T (fits binary64 (column_dual s j))

-- each list has its length
pub record Long (g : CostGraph) (s : Claim) : Type 0 where
  pub rows : length s.perm ≡ g.pattern.n
  pub row_duals : length s.u ≡ g.pattern.n
  pub column_duals : length s.v ≡ g.pattern.n

-- the tests of a claim, each passed
record Passed (g : CostGraph) (s : Claim) : Type 0 where
  pairing : pairing_fits g.pattern s.perm ≡ true
  rows : small_wholes s.u ≡ true
  columns : small_wholes s.v ≡ true
  below : sums_below g s ≡ true
  reached : sums_reached g s ≡ true

passed : (g : CostGraph) (s : Claim) → claim_fault g s ≡ 0 → Passed g s
unfolding claim_fault duals_hold
passed g s e =
    let a = or-zero (unless (pairing_fits g.pattern s.perm) incomplete_matching) _ e in
    let b = or-zero (unless (duals_hold g s) infeasible_duals) _ a.1 in
    let d = both (small_wholes s.u) _ (unless_holds (duals_hold g s) infeasible_duals (omega arith) b.0) in
    let f = both (small_wholes s.v) _ d.1 in
    record {
      pairing = unless_holds _ incomplete_matching (omega arith) a.0;
      rows = d.0;
      columns = f.0;
      below = f.1;
      reached = unless_holds _ loose_pair (omega arith) b.1;
    }

antisymmetric : (x y : ℤ) → T (le_z x y) → T (le_z y x) → x ≡ y
antisymmetric x y b c = same_integer x y (omega (arith, parts_below x y b, parts_below y x c))

either : (a b : Bool) → a ≡ true → (not a || b) ≡ true → b ≡ true
either true b e h = h
either false b e h = let z : ⊥ = subst T (sym e) tt in absurd z

module _ (g : CostGraph) (s : Claim) (a : Accepted g) (w : WholeCosts g) (l : Long g s) where
  S : Setting IsWhole 0 (cost_limit g.pattern.n) g
  S = whole_setting g a w

  module _ (d : Doubled s) (e : claim_fault g s ≡ 0) where
    p : Passed g s
    p = passed g s e

    row_fits : (i : ℕ) → i < g.pattern.n → FitDual (row_dual s i)
    unfolding small_wholes
    row_fits i h = fit_dual (row_dual s i) (d.rows i) (every_first (λ m. small_whole (get_or s.u m nan)) (length s.u) p.rows i (rw l.row_duals h))

    column_fits : (j : ℕ) → j < g.pattern.n → FitDual (column_dual s j)
    unfolding small_wholes
    column_fits j h = fit_dual (column_dual s j) (d.columns j)
        (every_first (λ m. small_whole (get_or s.v m nan)) (length s.v) p.columns j (rw l.column_duals h))

    module _ (k : ℕ) (h : k < entries g.pattern) where
      place : InColumn g.pattern (column_of g.pattern k) k
      place = in_column_lem g.pattern S.columns k h

      row_at : FitDual (row_dual s (row_of g.pattern k))
      row_at = row_fits (row_of g.pattern k) (row_below g.pattern S.columns (column_of g.pattern k) k place)

      column_at_lem : FitDual (column_dual s (column_of g.pattern k))
      column_at_lem = column_fits (column_of g.pattern k) place.column

      at_most : T (le_z (whole_of (row_dual s (row_of g.pattern k)) +ℤ whole_of (column_dual s (column_of g.pattern k))) (whole_of (cost_of g k)))
      unfolding sums_below
      at_most =
          let t = every_span (sum_below g s (column_of g.pattern k)) (start g.pattern (column_of g.pattern k))
          (end g.pattern (column_of g.pattern k))
          (every_first (column_below g s) g.pattern.n p.below (column_of g.pattern k) place.column) k place.above place.below in
          subst T (sym (sym (sum_at_most (row_dual s (row_of g.pattern k)) (column_dual s (column_of g.pattern k)) (cost_of g k) row_at column_at_lem (w k h))
          ∙ t)) tt

      at_least : T (pairs g.pattern s k) → T (le_z (whole_of (cost_of g k))
          (whole_of (row_dual s (row_of g.pattern k)) +ℤ whole_of (column_dual s (column_of g.pattern k))))
      unfolding sums_reached paired_entries
      at_least m =
          let t = every_span (sum_reached g s (column_of g.pattern k)) (start g.pattern (column_of g.pattern k))
          (end g.pattern (column_of g.pattern k))
          (every_first (column_reached g s) g.pattern.n p.reached (column_of g.pattern k) place.column) k place.above place.below in
          let e : eqb (row_of g.pattern k) (row_for s (column_of g.pattern k)) ≡ true = eq-eqb _ _
          (sym (eqb→eq (row_for s (column_of g.pattern k)) (row_of g.pattern k) m)) in
          subst T (sym (sym (sum_at_least (row_dual s (row_of g.pattern k)) (column_dual s (column_of g.pattern k)) (cost_of g k) row_at column_at_lem (w k h))
          ∙ either _ _ e t)) tt

    pub certified : Certified g s
    certified = record {
      graph = a;
      costs = w;
      row_count = l.rows;
      row_duals = l.row_duals;
      column_duals = l.column_duals;
      complete = complete g.pattern s.perm S.columns p.pairing;
      rows = row_fits;
      columns = column_fits;
      feasible = λ k h. le_z_yes (at_most k h);
      tight = λ k h t. antisymmetric _ _ (at_most k h) (at_least k h t);
    }

-- ---- what is certified passes
module _ (g : CostGraph) (s : Claim) (c : Certified g s) where
  ground : Setting IsWhole 0 (cost_limit g.pattern.n) g
  ground = whole_setting g c.graph c.costs

  module _ (j k : ℕ) (h : j < g.pattern.n) (a : start g.pattern j ≤ k) (b : k < end g.pattern j) where
    spot : InColumn g.pattern j k
    spot = record { column = h; above = a; below = b }

    in_graph : k < entries g.pattern
    in_graph = in_entries g.pattern ground.columns j k spot

    col_is : column_of g.pattern k ≡ j
    col_is = column-is g.pattern ground.columns j k spot

    row_good : FitDual (row_dual s (row_of g.pattern k))
    row_good = c.rows (row_of g.pattern k) (row_below g.pattern ground.columns j k spot)

    below_here : sum_below g s j k ≡ true
    below_here =
        sum_at_most (row_dual s (row_of g.pattern k)) (column_dual s j) (cost_of g k) row_good (c.columns j h) (c.costs k in_graph)
        ∙ is_true _ (subst (λ (i : ℕ). T (le_z (whole_of (row_dual s (row_of g.pattern k)) +ℤ whole_of (column_dual s i)) (whole_of (cost_of g k)))) col_is
        (c.feasible k in_graph).le)

    reached_here : sum_reached g s j k ≡ true
    unfolding paired_entries
    reached_here = go (eqb (row_of g.pattern k) (row_for s j)) refl
      where
        go : (t : Bool) → eqb (row_of g.pattern k) (row_for s j) ≡ t →
            (not t || le (cost_of g k) (add binary64 (row_dual s (row_of g.pattern k)) (column_dual s j))) ≡ true
        go false e = refl
        go true e =
            let t : T (pairs g.pattern s k) = eq→eqb (ap (row_for s) col_is ∙ sym (eqb-true (row_of g.pattern k) (row_for s j) e)) in
            let q : whole_of (row_dual s (row_of g.pattern k)) +ℤ whole_of (column_dual s j) ≡ whole_of (cost_of g k) =
            subst (λ (i : ℕ). whole_of (row_dual s (row_of g.pattern k)) +ℤ whole_of (column_dual s i) ≡ whole_of (cost_of g k)) col_is (c.tight k in_graph t) in
            sum_at_least (row_dual s (row_of g.pattern k)) (column_dual s j) (cost_of g k) row_good (c.columns j h) (c.costs k in_graph)
            ∙ is_true _ (subst (λ (z : ℤ). T (le_z (whole_of (cost_of g k)) z)) (sym q) (≤ℤ_refl (whole_of (cost_of g k))).le)

  duals_hold_lem : duals_hold g s ≡ true
  unfolding duals_hold small_wholes sums_below
  duals_hold_lem =
      let a : small_wholes s.u ≡ true =
      first_every (λ m. small_whole (get_or s.u m nan)) (length s.u) (λ i h. dual_fit (row_dual s i) (c.rows i (rw (← c.row_duals) h))) in
      let b : small_wholes s.v ≡ true =
      first_every (λ m. small_whole (get_or s.v m nan)) (length s.v) (λ j h. dual_fit (column_dual s j) (c.columns j (rw (← c.column_duals) h))) in
      let d : sums_below g s ≡ true =
      first_every (column_below g s) g.pattern.n (λ j h. span_every (sum_below g s j) (start g.pattern j) (end g.pattern j)
      (λ k x y. below_here j k h x y)) in
      rw (a, b) d

  sums_reached_lem : sums_reached g s ≡ true
  unfolding sums_reached
  sums_reached_lem = first_every (column_reached g s) g.pattern.n
      (λ j h. span_every (sum_reached g s j) (start g.pattern j) (end g.pattern j) (λ k x y. reached_here j k h x y))

  pub certified_passes : claim_fault g s ≡ 0
  unfolding claim_fault
  certified_passes = rw (complete_passes g.pattern s.perm ground.columns c.complete, duals_hold_lem, sums_reached_lem) refl
