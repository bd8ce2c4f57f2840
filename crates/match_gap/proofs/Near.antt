-- What an accepted call says: in each column the duals exceed the costs by at most its excess, and the pair's lack at most its lack, so that
-- `exchange` bounds the total, in exact units.
use mathlib.Core.Path.{◌≡◌, refl, sym, ap, ◌∙◌}
use mathlib.Core.Bool.{Bool, true}
use Prim.Native.Nat.{ℕ, ◌+◌, ◌-◌, ◌*◌, ◌≤◌, ◌<◌}
use native.Mathlib.Nat.{add-mul, mul-le-mul_right}
use native.Mathlib.Omega.{arith}
use borrow.Author.Tests.{eq-eqb}
use lib.Dec.{T, eqb, eqb→eq}
use Rattle.float64.specs.Number.{Number, units_per_one, magnitude}
use Rattle.cost_limit.specs.Range.{cost_limit}
use Rattle.matching.specs.Sum.{sum_to}
use Rattle.matching.specs.Matching.{Complete}
use Rattle.matching.specs.Pairing.{paired_entries}
use Rattle.matching.proofs.Sums.{sum_add, sum_times}
use Rattle.matching.proofs.Exchange.{exchange}
use Rattle.sparse.specs.Pattern.{bipartite, row_of, column_of, entries, start, end, InColumn}
use Rattle.hungarian.specs.Graph.{CostGraph, cost_of}
use Rattle.hungarian.specs.inner.Setting.{Setting}
use Rattle.sparse.proofs.Columns.{in_column_lem, in_range_lem, row_below}
use Rattle.match_check.specs.Check.{Claim, row_for, row_dual, column_dual}
use Rattle.match_check.specs.Call.{pairs}
use Rattle.match_gap.specs.Rounding.{zero_step, lower, upper}
use Rattle.match_gap.specs.Gap.{excess_at, lack_at, column_excess, column_lack, gap_of}
use Rattle.match_gap.specs.Call.{units_of}
use Rattle.match_gap.proofs.Places.{units_at, lower_below, upper_above, not-below}
use Rattle.match_gap.proofs.Most.{most_span}

-- in steps of s units: all the numbers of a graph and a claim
pub record Few (s : ℕ) (g : CostGraph) (c : Claim) : Type 0 where
  pub costs : (k : ℕ) → k < entries g.pattern → magnitude (cost_of g k) ≤ zero_step * s
  pub rows : (i : ℕ) → i < g.pattern.n → magnitude (row_dual c i) ≤ zero_step * s
  pub columns : (j : ℕ) → j < g.pattern.n → magnitude (column_dual c j) ≤ zero_step * s

-- a difference of places, in units
steps_below : (s a b l h : ℕ) → (x y z : ℕ) → a + b - (l + zero_step) ≤ h → x ≤ a * s → y ≤ b * s → l * s ≤ z → x + y ≤ z + (h * s + zero_step * s)
steps_below s a b l h x y z e f i j =
    omega (
      arith,
      mul-le-mul_right s (let q : a + b ≤ h + (l + zero_step) = omega (arith, e) in q),
      add-mul a b s,
      add-mul h (l + zero_step) s,
      add-mul l zero_step s,
      f,
      i,
      j,
    )

steps_above : (s a b l h : ℕ) → (x y z : ℕ) → l + zero_step - (a + b) ≤ h → a * s ≤ x → b * s ≤ y → z ≤ l * s → z + zero_step * s ≤ h * s + (x + y)
steps_above s a b l h x y z e f i j =
    omega (
      arith,
      mul-le-mul_right s (let q : l + zero_step ≤ h + (a + b) = omega (arith, e) in q),
      add-mul l zero_step s,
      add-mul h (a + b) s,
      add-mul a b s,
      f,
      i,
      j,
    )

module _ (s : ℕ) (p : 0 < s) (g : CostGraph) (c : Claim) (S : Setting Number units_per_one (cost_limit g.pattern.n) g) (f : Few s g c) where
  excess : ℕ → ℕ
  excess j = column_excess s g c j

  lack : ℕ → ℕ
  lack j = column_lack s g c j

  module _ (k : ℕ) (h : k < entries g.pattern) where
    column : InColumn g.pattern (column_of g.pattern k) k
    column = in_column_lem g.pattern S.columns k h

    cost_few : magnitude (cost_of g k) ≤ zero_step * s
    cost_few = f.costs k h

    row_few : magnitude (row_dual c (row_of g.pattern k)) ≤ zero_step * s
    row_few = f.rows (row_of g.pattern k) (row_below g.pattern S.columns (column_of g.pattern k) k column)

    column_few : magnitude (column_dual c (column_of g.pattern k)) ≤ zero_step * s
    column_few = f.columns (column_of g.pattern k) column.column

    cost_place : units_at s (cost_of g k) ≡ zero_step * s + magnitude (cost_of g k)
    cost_place = not-below s (cost_of g k) (S.good k h) (S.low k h)

    below : units_at s (row_dual c (row_of g.pattern k)) + units_at s (column_dual c (column_of g.pattern k)) ≤ magnitude
        (cost_of g k) + (excess (column_of g.pattern k) * s + (zero_step * s + zero_step * s))
    unfolding excess
    below =
        let e : excess_at s g c (column_of g.pattern k) k ≤ column_excess s g c (column_of g.pattern k) =
        most_span (excess_at s g c (column_of g.pattern k)) (start g.pattern (column_of g.pattern k)) (end g.pattern (column_of g.pattern k)) k
        column.above column.below in
        omega (
          arith,
          cost_place,
          steps_below s (upper s (row_dual c (row_of g.pattern k))) (upper s (column_dual c (column_of g.pattern k))) (lower s (cost_of g k))
              (column_excess s g c (column_of g.pattern k)) _ _ _ e (upper_above s p (row_dual c (row_of g.pattern k)) row_few)
              (upper_above s p (column_dual c (column_of g.pattern k)) column_few) (lower_below s p (cost_of g k) cost_few),
        )

    is_pair : T (pairs g.pattern c k) → eqb (row_of g.pattern k) (row_for c (column_of g.pattern k)) ≡ true
    unfolding paired_entries
    is_pair t = eq-eqb _ _ (sym (eqb→eq (row_for c (column_of g.pattern k)) (row_of g.pattern k) t))

    above : T (pairs g.pattern c k) → magnitude (cost_of g k) + (zero_step * s + zero_step * s) ≤ lack
        (column_of g.pattern k) * s + (units_at s (row_dual c (row_of g.pattern k)) + units_at s (column_dual c (column_of g.pattern k)))
    unfolding lack
    above t =
        let e : lack_at s g c (column_of g.pattern k) k ≤ column_lack s g c (column_of g.pattern k) =
        most_span (lack_at s g c (column_of g.pattern k)) (start g.pattern (column_of g.pattern k)) (end g.pattern (column_of g.pattern k)) k
        column.above column.below in
        let d : upper s (cost_of g k) + zero_step - (lower s (row_dual c (row_of g.pattern k)) + lower s (column_dual c (column_of g.pattern k)))
        ≤ column_lack s g c (column_of g.pattern k) =
        rw (is_pair t) at e in
        omega (
          arith,
          cost_place,
          steps_above s (lower s (row_dual c (row_of g.pattern k))) (lower s (column_dual c (column_of g.pattern k))) (upper s (cost_of g k))
              (column_lack s g c (column_of g.pattern k)) _ _ _ d (lower_below s p (row_dual c (row_of g.pattern k)) row_few)
              (lower_below s p (column_dual c (column_of g.pattern k)) column_few) (upper_above s p (cost_of g k) cost_few),
        )

  gap_is : sum_to g.pattern.n (λ j. excess j * s) + sum_to g.pattern.n (λ j. lack j * s) ≡ gap_of s g c * s
  gap_is =
      let e : gap_of s g c ≡ sum_to g.pattern.n (λ j. excess j + lack j) = unfold gap_of excess lack in refl in
      omega (
        arith,
        sum_times g.pattern.n excess s,
        sum_times g.pattern.n lack s,
        ap (λ (x : ℕ). x * s) (e ∙ sum_add g.pattern.n excess lack),
        add-mul (sum_to g.pattern.n excess) (sum_to g.pattern.n lack) s,
      )

  pub near_least : Complete (bipartite g.pattern) (pairs g.pattern c) → (R : ℕ → Bool) → Complete (bipartite g.pattern) R
      → units_of g (pairs g.pattern c) ≤ units_of g R + gap_of s g c * s
  unfolding units_of
  near_least full R r =
      omega (
        arith,
        gap_is,
        exchange (in_range_lem g.pattern S.columns) full r (λ k. magnitude (cost_of g k)) (λ j. excess j * s) (λ j. lack j * s) (λ i. units_at s (row_dual c i))
            (λ j. units_at s (column_dual c j)) (zero_step * s + zero_step * s) below above,
      )
