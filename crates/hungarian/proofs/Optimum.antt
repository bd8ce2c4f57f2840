-- Demand 3 from what holds at the end of the run: a largest matching by the closed set, for any accepted costs, and of least total by the duals, where
-- costs are whole. Keys are origin and a multiple of `units_per_one`, so what is linear in keys is linear in the numbers.
use mathlib.Core.Path.{◌≡◌, refl, sym, ap, ◌∙◌, subst}
use mathlib.Core.Logic.{◌↔◌}
use mathlib.Core.Bool.{Bool, true, false}
use mathlib.Core.List.{List}
use Prim.Native.Nat.{ℕ, ◌+◌, ◌*◌, ◌≤◌, ◌<◌}
use native.Mathlib.Nat.{add-mul, suc-mul, zero-mul, one-mul, le_of_mul-le-mul_right, eq_of_mul-eq-mul_right}
use native.Mathlib.Omega.{arith}
use borrow.Author.Tests.{le-leb}
use lib.Dec.{T}
use lib.IntN.{ℤ, pos, negsuc, nat_abs, ◌+ℤ◌}
use lib.Signed.{le_z_yes, ◌≤ℤ◌}
use lib.Ieee.{Float}
use Rattle.float64.specs.Number.{whole_of, units_per_one, origin, IsWhole}
use Rattle.float64.specs.inner.Keys.{position}
use Rattle.float64.specs.inner.Arithmetic.{Apart}
use Rattle.float64.proofs.Scale.{units_pos}
use Rattle.float64.proofs.Integers.{plus, minus, same_integer, sum_parts, at_most_parts}
use Rattle.float64.proofs.WholeNumbers.{whole_key, whole_of_lem}
use Rattle.matching.specs.Sum.{or_zero}
use Rattle.matching.specs.Matching.{Bipartite, Complete, Largest, LeastTotal, size, total}
use Rattle.matching.specs.Pairing.{paired_entries}
use Rattle.matching.proofs.Sums.{sum_add, sum_same, sum_times}
use Rattle.matching.proofs.Matchings.{complete_exactly, least_total, same_largest}
use Rattle.matching.proofs.Pairings.{held_largest, same_by_row, by_row_size}
use Rattle.hungarian.specs.declared.HungarianStats.{HungarianStats}
use Rattle.sparse.specs.Pattern.{bipartite, row_of, column_of, entries}
use Rattle.hungarian.specs.Graph.{CostGraph, cost_of}
use Rattle.hungarian.specs.Init.{Pairs}
use Rattle.hungarian.specs.Match.{finish}
use Rattle.hungarian.specs.Optimal.{Optimal, LargestMatch, amount, matched_entries, DualsWithin}
use Rattle.hungarian.specs.inner.Setting.{Setting}
use Rattle.hungarian.specs.inner.Between.{at, dual, Matched, Bounded, Tight, Floored}
use Rattle.hungarian.specs.inner.Runs.{Hopeless}
use Rattle.sparse.proofs.Columns.{in_column_lem, in_range_lem, simple, row_below}
use Rattle.hungarian.proofs.Finish.{perm, rows, columns, rows_of, perm_places, perm_entry, perm_range, perm_count_lem, count_range, rows_good}
use Rattle.hungarian.proofs.Finish.{columns_good, rows_within, columns_within, keys_feasible, keys_tight}

-- ---- keys and whole numbers
-- the position of a whole double, by the number it stands for
pub number_key : (x : Float) → IsWhole x → position x + minus (whole_of x) * units_per_one ≡ origin + plus (whole_of x) * units_per_one
number_key x w = subst (λ (z : ℤ). position x + minus z * units_per_one ≡ origin + plus z * units_per_one) (sym (whole_of_lem x w.0 w.1))
    (whole_key x w.0 w.1)

-- a + b ≤ c of numbers, from keys
module _ (x y c : Float) (p : IsWhole x) (q : IsWhole y) (r : IsWhole c) where
  sums : plus (whole_of x +ℤ whole_of y) * units_per_one + (minus (whole_of x) * units_per_one + minus (whole_of y) * units_per_one) ≡ plus
      (whole_of x) * units_per_one + plus (whole_of y) * units_per_one + minus (whole_of x +ℤ whole_of y) * units_per_one
  sums = simp add-mul at (ap (λ (n : ℕ). n * units_per_one) (sum_parts (whole_of x) (whole_of y)))

  numbers_below : position x + position y ≤ position c + origin → (whole_of x +ℤ whole_of y) ≤ℤ whole_of c
  numbers_below h =
      le_z_yes (subst (λ (b : Bool). T b)
      (sym (at_most_parts (whole_of x +ℤ whole_of y) (whole_of c) ∙ le-leb (plus (whole_of x +ℤ whole_of y) + minus (whole_of c))
      (plus (whole_of c) + minus (whole_of x +ℤ whole_of y))
      (le_of_mul-le-mul_right (rw (
        add-mul (plus (whole_of x +ℤ whole_of y)) (minus (whole_of c)) units_per_one,
        add-mul (plus (whole_of c))
            (minus (whole_of x +ℤ whole_of y)) units_per_one,
      ) (omega (arith, sums, number_key x p, number_key y q, number_key c r))) units_pos))) tt)

  pub numbers_equal : position x + position y ≡ position c + origin → whole_of x +ℤ whole_of y ≡ whole_of c
  numbers_equal h =
      same_integer (whole_of x +ℤ whole_of y) (whole_of c)
      (eq_of_mul-eq-mul_right units_per_one units_pos (plus (whole_of x +ℤ whole_of y) + minus (whole_of c)) (plus (whole_of c) + minus (whole_of x +ℤ whole_of y))
      (rw (
        add-mul (plus (whole_of x +ℤ whole_of y)) (minus (whole_of c)) units_per_one,
        add-mul (plus (whole_of c))
            (minus (whole_of x +ℤ whole_of y)) units_per_one,
      ) (omega (arith, sums, number_key x p, number_key y q, number_key c r))))

-- a number that is not negative, by its size
pub natural : (z : ℤ) (k : ℕ) → origin ≤ k → k + minus z * units_per_one ≡ origin + plus z * units_per_one → k ≡ origin + nat_abs z * units_per_one
natural (pos n) k h e = omega (arith, zero-mul units_per_one)
natural (negsuc n) k h e = let a = suc-mul n units_per_one in let z : ⊥ = omega (arith, zero-mul units_per_one, units_pos) in absurd z

-- a whole number by its position: at most b units of 1 from zero
number_within : (b : ℕ) (x : Float) → IsWhole x → Apart (b * units_per_one) (position x) origin → nat_abs (whole_of x) ≤ b
number_within b x w a = go (whole_of x) (number_key x w)
  where
    go : (z : ℤ) → position x + minus z * units_per_one ≡ origin + plus z * units_per_one → nat_abs z ≤ b
    go (pos n) e = le_of_mul-le-mul_right (omega (arith, zero-mul units_per_one, a.above)) units_pos
    go (negsuc n) e = le_of_mul-le-mul_right (omega (arith, zero-mul units_per_one, a.under)) units_pos

-- totals of keys are totals of numbers
pub total_keys : (b : Bipartite) (c a : ℕ → ℕ) (R : ℕ → Bool) → ((k : ℕ) → k < b.entries → c k ≡ origin + a k * units_per_one)
    → total b c R ≡ size b R * origin + total b a R * units_per_one
unfolding total size
total_keys b c a R h =
    sum_same b.entries (λ k. or_zero (R k) (c k)) (λ k. or_zero (R k) 1 * origin + or_zero (R k) (a k) * units_per_one) (λ k l. rw (h k l) (both (R k) (a k)))
    ∙ sum_add b.entries (λ k. or_zero (R k) 1 * origin) (λ k. or_zero (R k) (a k) * units_per_one)
    ∙ (let p = sum_times b.entries (λ k. or_zero (R k) 1) origin in let q = sum_times b.entries (λ k. or_zero (R k) (a k)) units_per_one in omega arith)
  where
    both : (t : Bool) (n : ℕ) → or_zero t (origin + n * units_per_one) ≡ or_zero t 1 * origin + or_zero t n * units_per_one
    both true n = rw one-mul refl
    both false n = omega (arith, zero-mul origin, zero-mul units_per_one)

-- ---- any accepted costs: the closed set needs no exact sums
module _ {Good : Float → Type 0} {err C : ℕ} {g : CostGraph} {s : Pairs} {u : List Float} (c : HungarianStats) (S : Setting Good err C g)
    (M : Matched g s) (B : Bounded Good C g s u) (h : Hopeless g s g.pattern.n) where
  held_most : Largest (bipartite g.pattern) (paired_entries (bipartite g.pattern) (at (perm S M B)))
  held_most = same_largest (bipartite g.pattern) (same_by_row (in_range_lem g.pattern S.columns) M.paired (rows_of S M B)
      (simple g.pattern S.columns))
      (held_largest (in_range_lem g.pattern S.columns) M.paired h.closed (λ j l f. h.holds j l f))

  held_count : size (bipartite g.pattern) (paired_entries (bipartite g.pattern) (at (perm S M B))) ≡ s.num
  held_count = by_row_size (in_range_lem g.pattern S.columns) M.paired (rows_of S M B) (simple g.pattern S.columns) ∙ sym (perm_count_lem S M B)

  pub ranged : LargestMatch g.pattern (finish g s u c)
  unfolding finish matched_entries
  ranged = record {
    places = perm_places S M B;
    pairs = perm_entry S M B;
    rows = perm_range S M B;
    counted = perm_count_lem S M B;
    count = count_range M;
    matching = held_most.matching;
    pair_count = held_count;
    largest = λ R w. subst (λ (x : ℕ). size (bipartite g.pattern) R ≤ x) held_count (held_most.most R w);
    complete = subst (λ (x : ℕ). (x ≡ g.pattern.n) ↔ ((R : ℕ → Bool) × Complete (bipartite g.pattern) R)) held_count
        (complete_exactly (in_range_lem g.pattern S.columns) held_most);
  }

-- ---- whole costs
module _ {C : ℕ} {g : CostGraph} {s : Pairs} {u : List Float} (c : HungarianStats) (S : Setting IsWhole 0 C g) (M : Matched g s)
    (B : Bounded IsWhole C g s u) (D : Tight g s u) (h : Hopeless g s g.pattern.n) where
  cost_key : (k : ℕ) → k < entries g.pattern → position (cost_of g k) ≡ origin + amount g k * units_per_one
  unfolding amount
  cost_key k l = natural (whole_of (cost_of g k)) (position (cost_of g k)) (S.low k l) (number_key (cost_of g k) (S.good k l))

  least : s.num ≡ g.pattern.n → (R : ℕ → Bool) → Complete (bipartite g.pattern) R → total (bipartite g.pattern) (amount g)
      (paired_entries (bipartite g.pattern) (at (perm S M B)))
      ≤ total (bipartite g.pattern) (amount g) R
  least full R w =
      let held = paired_entries (bipartite g.pattern) (at (perm S M B)) in
      let own : Complete (bipartite g.pattern) held = record { matching = (held_most c S M B h).matching; full = held_count c S M B h ∙ full } in
      let l : LeastTotal (bipartite g.pattern) (λ k. position (cost_of g k)) held =
      least_total {a = λ i. position (dual (rows S M B) i)} {b = λ j. position (dual (columns S M B) j)} {m = origin} (in_range_lem g.pattern S.columns) own
      (record { below = keys_feasible S M B refl D; tight = keys_tight S M B refl D }) in
      le_of_mul-le-mul_right
      (omega (
        arith,
        l.least R w,
        total_keys (bipartite g.pattern) (λ k. position (cost_of g k)) (amount g) held cost_key,
        total_keys (bipartite g.pattern)
            (λ k. position (cost_of g k)) (amount g) R cost_key,
        ap (λ (x : ℕ). x * origin) own.full,
        ap (λ (x : ℕ). x * origin) w.full,
      ))
      units_pos

  pub optimal : Optimal g (finish g s u c)
  unfolding finish matched_entries
  optimal = record {
    ranged = ranged c S M B h;
    least = least;
    rows_whole = rows_good S M B;
    columns_whole = columns_good S M B;
    feasible = λ k l. let w = in_column_lem g.pattern S.columns k l in numbers_below (dual (rows S M B) (row_of g.pattern k))
        (dual (columns S M B) (column_of g.pattern k))
        (cost_of g k) (rows_good S M B (row_of g.pattern k) (row_below g.pattern S.columns (column_of g.pattern k) k w))
        (columns_good S M B (column_of g.pattern k) w.column)
        (S.good k l) (keys_feasible S M B refl D k l);
    tight = λ k l z. let w = in_column_lem g.pattern S.columns k l in numbers_equal (dual (rows S M B) (row_of g.pattern k))
        (dual (columns S M B) (column_of g.pattern k))
        (cost_of g k) (rows_good S M B (row_of g.pattern k) (row_below g.pattern S.columns (column_of g.pattern k) k w))
        (columns_good S M B (column_of g.pattern k) w.column)
        (S.good k l) (keys_tight S M B refl D k l z);
  }

  pub within : Floored C g u → DualsWithin (2 * (g.pattern.n * C)) g (finish g s u c)
  unfolding finish
  within L = record {
    rows = λ i l. number_within (2 * (g.pattern.n * C)) (dual (rows S M B) i) (rows_good S M B i l) (rows_within S M B refl D L i l);
    columns = λ j l. number_within (2 * (g.pattern.n * C)) (dual (columns S M B) j) (columns_good S M B j l) (columns_within S M B refl D L j l);
  }
