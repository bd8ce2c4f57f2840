-- Whole numbers have no gap: a whole number's size is a multiple of a step, so nothing is rounded, and what `check_match` accepts has sums that
-- neither exceed a cost nor fall short of a pair's. By places of the parts of integers.
use mathlib.Core.Path.{◌≡◌, refl, sym, ap, ap₂, ◌∙◌, subst}
use mathlib.Core.Bool.{Bool, true, false, cond}
use Prim.Native.Nat.{ℕ, zero, suc, ◌+◌, ◌-◌, ◌*◌, ◌^◌, ◌≤◌, ◌<◌}
use native.Mathlib.Nat.{add-mul, mul_assoc, mul-zero, zero-mul, one-mul, mul-div_cancel, div-eq_of_lt-le, mul-le-mul_right, le_of_mul-le-mul_right}
use native.Mathlib.Omega.{arith}
use borrow.Author.Tests.{leb-true, eqb-true}
use lib.Dec.{T, eqb}
use lib.Pow.{pow-add, pow_pos}
use lib.IntN.{ℤ, nat_abs, ◌+ℤ◌}
use lib.Signed.{le_z}
use lib.Ieee.{Float}
use lib.Ieee.Bits.{is_true}
use lib.Ieee.Fits.{eq→eqb}
use Rattle.float64.specs.Number.{whole_of, negative, signed, units_per_one, magnitude, IsWhole}
use Rattle.float64.proofs.Integers.{plus, minus, sum_parts, at_most_parts}
use Rattle.matching.specs.Pairing.{paired_entries}
use Rattle.matching.proofs.Sums.{sum_same, sum_const}
use Rattle.cost_limit.specs.Range.{cost_limit}
use Rattle.sparse.specs.Pattern.{row_of, column_of, entries, start, end, InColumn}
use Rattle.hungarian.specs.Graph.{CostGraph, cost_of}
use Rattle.hungarian.specs.inner.Setting.{Setting}
use Rattle.hungarian.proofs.Accepts.{whole_setting}
use Rattle.sparse.proofs.Columns.{in_entries, column-is, row_below}
use Rattle.match_check.specs.Check.{Claim, row_for, row_dual, column_dual}
use Rattle.match_check.specs.Call.{Certified, pairs}
use Rattle.match_check.proofs.Wholes.{number_size}
use Rattle.match_gap.specs.Rounding.{zero_step, step, floor_in, ceiling_in, place_below, place_above, lower, upper}
use Rattle.match_gap.specs.Gap.{excess_at, lack_at, column_excess, column_lack, gap_of}
use Rattle.match_gap.proofs.Most.{span_none}
use Rattle.match_gap.proofs.Near.{Few}

-- ---- multiples of a step are not rounded
floor_exact : (s q : ℕ) → 0 < s → floor_in s (q * s) ≡ q
floor_exact s q p = mul-div_cancel q p

ceiling_exact : (s q : ℕ) → 0 < s → ceiling_in s (q * s) ≡ q
ceiling_exact s q p = div-eq_of_lt-le s (omega arith) (omega (arith, p, add-mul q 1 s, one-mul s))

-- the place of q steps
at : Bool → ℕ → ℕ
at sign q = cond sign (zero_step - q) (zero_step + q)

below_exact : (s q : ℕ) (sign : Bool) → 0 < s → place_below s sign (q * s) ≡ at sign q
unfolding place_below at
below_exact s q true p = ap (λ (x : ℕ). zero_step - x) (ceiling_exact s q p)
below_exact s q false p = ap (λ (x : ℕ). zero_step + x) (floor_exact s q p)

above_exact : (s q : ℕ) (sign : Bool) → 0 < s → place_above s sign (q * s) ≡ at sign q
unfolding place_above at
above_exact s q true p = ap (λ (x : ℕ). zero_step - x) (floor_exact s q p)
above_exact s q false p = ap (λ (x : ℕ). zero_step + x) (ceiling_exact s q p)

-- by the parts of the integer
parts_at : (sign : Bool) (n d : ℕ) → nat_abs (signed sign n) * d ≤ zero_step → at sign (nat_abs (signed sign n) * d) + minus (signed sign n) * d ≡ zero_step
    + plus (signed sign n) * d
unfolding at
parts_at true zero d h = omega (arith, zero-mul d)
parts_at true (suc n) d h = omega (arith, zero-mul d)
parts_at false n d h = omega (arith, zero-mul d)

-- ---- a whole number of few enough steps
module _ (digits : ℕ) (few : digits ≤ 50) where
  abbrev s : ℕ
  s = step digits

  abbrev d : ℕ
  d = 2 ^ digits

  step_pos : 0 < s
  unfolding step
  step_pos = pow_pos (1074 - digits)

  units_are : units_per_one ≡ d * s
  unfolding units_per_one step
  units_are = ap (λ (k : ℕ). 2 ^ k) (let e : 1074 ≡ digits + (1074 - digits) = omega arith in e) ∙ pow-add 2 digits (1074 - digits)

  module _ (x : Float) (w : IsWhole x) (h : magnitude x ≤ zero_step * s) where
    q : ℕ
    q = nat_abs (whole_of x) * d

    size : magnitude x ≡ q * s
    unfolding q
    size = number_size x w ∙ ap (λ (u : ℕ). nat_abs (whole_of x) * u) units_are ∙ sym (mul_assoc (nat_abs (whole_of x)) d s)

    q_few : q ≤ zero_step
    q_few = le_of_mul-le-mul_right (omega (arith, size, h)) step_pos

    lower-is : lower s x ≡ at (negative x) q
    unfolding lower
    lower-is = ap (place_below s (negative x)) size ∙ below_exact s q (negative x) step_pos

    upper_is : upper s x ≡ at (negative x) q
    unfolding upper
    upper_is = ap (place_above s (negative x)) size ∙ above_exact s q (negative x) step_pos

    at_parts : at (negative x) q + minus (whole_of x) * d ≡ zero_step + plus (whole_of x) * d
    unfolding q whole_of
    at_parts = parts_at (negative x) _ d q_few

    lower_parts : lower s x + minus (whole_of x) * d ≡ zero_step + plus (whole_of x) * d
    lower_parts = omega (arith, lower-is, at_parts)

    upper_parts : upper s x + minus (whole_of x) * d ≡ zero_step + plus (whole_of x) * d
    upper_parts = omega (arith, upper_is, at_parts)

  -- an order of integers, multiplied out
  times : (a b c : ℤ) → T (le_z (a +ℤ b) c) → plus a * d + plus b * d + minus c * d ≤ plus c * d + (minus a * d + minus b * d)
  times a b c t =
      let l : plus (a +ℤ b) + minus c ≤ plus c + minus (a +ℤ b) =
      leb-true (plus (a +ℤ b) + minus c) (plus c + minus (a +ℤ b)) (sym (at_most_parts (a +ℤ b) c) ∙ is_true (le_z (a +ℤ b) c) t) in
      let m : plus a + plus b + minus c ≤ plus c + (minus a + minus b) = omega (arith, l, sum_parts a b) in
      omega (
        arith,
        mul-le-mul_right d m,
        add-mul (plus a + plus b) (minus c) d,
        add-mul (plus a) (plus b) d,
        add-mul (plus c) (minus a + minus b) d,
        add-mul (minus a) (minus b) d,
      )

  times_back : (a b c : ℤ) → a +ℤ b ≡ c → plus c * d + (minus a * d + minus b * d) ≤ plus a * d + plus b * d + minus c * d
  times_back a b c e =
      let m : plus c + (minus a + minus b) ≤ plus a + plus b + minus c = omega (arith, sum_parts a b, ap plus e, ap minus e) in
      omega (
        arith,
        mul-le-mul_right d m,
        add-mul (plus a + plus b) (minus c) d,
        add-mul (plus a) (plus b) d,
        add-mul (plus c) (minus a + minus b) d,
        add-mul (minus a) (minus b) d,
      )

  module _ (g : CostGraph) (c : Claim) (y : Certified g c) (f : Few s g c) where
    S : Setting IsWhole 0 (cost_limit g.pattern.n) g
    S = whole_setting g y.graph y.costs

    module _ (j k : ℕ) (h : j < g.pattern.n) (a : start g.pattern j ≤ k) (b : k < end g.pattern j) where
      spot : InColumn g.pattern j k
      spot = record { column = h; above = a; below = b }

      inside : k < entries g.pattern
      inside = in_entries g.pattern S.columns j k spot

      col_is : column_of g.pattern k ≡ j
      col_is = column-is g.pattern S.columns j k spot

      row_lt : row_of g.pattern k < g.pattern.n
      row_lt = row_below g.pattern S.columns j k spot

      feasible : T (le_z (whole_of (row_dual c (row_of g.pattern k)) +ℤ whole_of (column_dual c j)) (whole_of (cost_of g k)))
      feasible = subst (λ (i : ℕ). T (le_z (whole_of (row_dual c (row_of g.pattern k)) +ℤ whole_of (column_dual c i)) (whole_of (cost_of g k)))) col_is
          (y.feasible k inside).le

      no_excess : excess_at s g c j k ≡ 0
      no_excess =
          omega (
            arith,
            times (whole_of (row_dual c (row_of g.pattern k))) (whole_of (column_dual c j)) (whole_of (cost_of g k)) feasible,
            upper_parts (row_dual c (row_of g.pattern k)) (y.rows (row_of g.pattern k) row_lt).is_whole (f.rows (row_of g.pattern k) row_lt),
            upper_parts (column_dual c j) (y.columns j h).is_whole (f.columns j h),
            lower_parts (cost_of g k) (y.costs k inside) (f.costs k inside),
          )

      no_lack : lack_at s g c j k ≡ 0
      unfolding paired_entries
      no_lack = go (eqb (row_of g.pattern k) (row_for c j)) refl
        where
          go : (t : Bool) → eqb (row_of g.pattern k) (row_for c j) ≡ t
              → cond t (upper s (cost_of g k) + zero_step - (lower s (row_dual c (row_of g.pattern k)) + lower s (column_dual c j))) 0 ≡ 0
          go false e = refl
          go true e =
              let t : T (pairs g.pattern c k) = eq→eqb (ap (row_for c) col_is ∙ sym (eqb-true (row_of g.pattern k) (row_for c j) e)) in
              let q : whole_of (row_dual c (row_of g.pattern k)) +ℤ whole_of (column_dual c j) ≡ whole_of (cost_of g k) =
              subst (λ (i : ℕ). whole_of (row_dual c (row_of g.pattern k)) +ℤ whole_of (column_dual c i) ≡ whole_of (cost_of g k)) col_is (y.tight k inside t) in
              omega (
                arith,
                times_back (whole_of (row_dual c (row_of g.pattern k))) (whole_of (column_dual c j)) (whole_of (cost_of g k)) q,
                lower_parts (row_dual c (row_of g.pattern k)) (y.rows (row_of g.pattern k) row_lt).is_whole (f.rows (row_of g.pattern k) row_lt),
                lower_parts (column_dual c j) (y.columns j h).is_whole (f.columns j h),
                upper_parts (cost_of g k) (y.costs k inside) (f.costs k inside),
              )

    pub no_gap : gap_of s g c ≡ 0
    unfolding gap_of
    no_gap =
        sum_same g.pattern.n (λ j. column_excess s g c j + column_lack s g c j) (λ j. 0)
        (λ j h. ap₂ ◌+◌ (span_none (excess_at s g c j) (start g.pattern j) (end g.pattern j) (λ k a b. no_excess j k h a b))
        (span_none (lack_at s g c j) (start g.pattern j) (end g.pattern j) (λ k a b. no_lack j k h a b)))
        ∙ sum_const g.pattern.n 0
        ∙ mul-zero g.pattern.n
