-- A graph that the test accepts is a setting of the theory: over all finite doubles, with an error of a half, and over whole numbers, with none, where
-- its costs are whole; and over any smaller limit that they are below.
use mathlib.Core.Path.{◌≡◌, ◌∙◌}
use mathlib.Core.Bool.{true}
use Prim.Native.Nat.{ℕ, suc, ◌+◌, ◌*◌, ◌≤◌, ◌<◌, zero-le}
use native.Mathlib.Nat.{le_refl, le_trans, mul-le-mul_left, mul-lt-mul_of_pos_right}
use native.Mathlib.Omega.{arith}
use borrow.Author.Tests.{eqb-true}
use lib.Dec.{eqb}
use lib.IntN.{pos}
use lib.ListN.{length, get_or}
use lib.Ieee.{nan}
use Rattle.limits.specs.Limits.{max_general}
use Rattle.float64.specs.Number.{Number, whole_of, units_per_one, origin, IsWhole}
use Rattle.float64.specs.inner.Keys.{position}
use Rattle.float64.specs.inner.Arithmetic.{Arithmetic, whole_limit}
use Rattle.float64.specs.Constants.{zero as fzero}
use Rattle.float64.proofs.Constants.{zero_whole}
use Rattle.float64.proofs.Scale.{units_pos}
use Rattle.float64.proofs.Sums.{near_arithmetic}
use Rattle.float64.proofs.WholeNumbers.{number_whole, whole_arithmetic}
use Rattle.refusal.specs.Refusal.{cost_range}
use Rattle.sparse.specs.Fault.{unless}
use Rattle.sparse.specs.Validate.{size_fault, pointer_fault, general_columns}
use Rattle.sparse.specs.Columns.{Columns}
use Rattle.sparse.proofs.First.{or-zero, unless_holds, all_zero}
use Rattle.slices.proofs.Bools.{both}
use Rattle.sparse.proofs.Accepted.{sizes_accepted, pointers_accepted, general_columns_lem}
use Rattle.cost_limit.specs.Range.{in_range, cost_limit}
use Rattle.cost_limit.proofs.Range.{product, fits_number}
use Rattle.sparse.specs.Pattern.{entries}
use Rattle.hungarian.specs.Graph.{CostGraph, cost_of}
use Rattle.hungarian.specs.Test.{graph_fault, graph_lengths, cost_fault}
use Rattle.hungarian.specs.Accepted.{Accepted, Doubles}
use Rattle.hungarian.specs.Optimal.{WholeCosts, amount}
use Rattle.hungarian.specs.inner.Setting.{Setting}
use Rattle.hungarian.proofs.Optimum.{natural, number_key}

-- ---- what the test shows
record Passed (g : CostGraph) : Type 0 where
  few_columns : g.pattern.n ≤ 4096
  few_entries : entries g.pattern ≤ 262144
  pointer_count : length g.pattern.col_ptr ≡ suc g.pattern.n
  cost_count : length g.cost ≡ entries g.pattern
  columns : Columns g.pattern.n g.pattern.col_ptr g.pattern.row_idx
  ranges : (k : ℕ) → k < entries g.pattern → in_range g.pattern.n (cost_of g k) ≡ true

passed : (g : CostGraph) → Accepted g → Passed g
unfolding graph_fault cost_fault
passed g a =
    let z = or-zero (size_fault g.pattern.n max_general (length g.pattern.row_idx) (graph_lengths g)) _ a in
    let y = or-zero (pointer_fault g.pattern.n g.pattern.col_ptr (length g.pattern.row_idx)) _ z.1 in
    let x = or-zero (general_columns g.pattern.n g.pattern.col_ptr g.pattern.row_idx) _ y.1 in
    let s = (sizes_accepted g.pattern.n max_general (length g.pattern.row_idx) (graph_lengths g)).0 z.0 in
    let l = both (eqb (length g.pattern.col_ptr) (g.pattern.n + 1)) (eqb (length g.cost) (length g.pattern.row_idx)) s.2 in
    let c : length g.cost ≡ entries g.pattern = eqb-true (length g.cost) (length g.pattern.row_idx) l.1 in
    record {
      few_columns = s.0;
      few_entries = s.1;
      pointer_count = eqb-true (length g.pattern.col_ptr) (g.pattern.n + 1) l.0 ∙ (let e : g.pattern.n + 1 ≡ suc g.pattern.n = omega arith in e);
      cost_count = c;
      columns = (general_columns_lem ((pointers_accepted g.pattern.n g.pattern.col_ptr (length g.pattern.row_idx)).0 y.0)).0 x.0;
      ranges = λ k h. unless_holds (in_range g.pattern.n (cost_of g k)) cost_range (omega arith)
          ((all_zero (λ i. unless (in_range g.pattern.n (get_or g.cost i nan)) cost_range) (length g.cost)).0 x.1 k (rw c h));
    }

-- a graph with an entry has a column
some_column : {g : CostGraph} → Passed g → (k : ℕ) → k < entries g.pattern → 0 < g.pattern.n
some_column p k h = omega (arith, p.columns.inside k h)

-- any accepted graph of doubles, and one of whole costs
pub near_setting : (g : CostGraph) → Accepted g → Doubles g → Setting Number units_per_one (cost_limit g.pattern.n) g
near_setting g a f =
    let p = passed g a in
    let r : (k : ℕ) → k < entries g.pattern → Number (cost_of g k) × (origin ≤ position (cost_of g k))
    × (position (cost_of g k) < origin + cost_limit g.pattern.n * units_per_one) =
    λ k h. fits_number g.pattern.n (cost_of g k) (some_column p k h) (f k h) (p.ranges k h) in
    record {
      laws = near;
      fine = le_refl units_per_one;
      zero_good = number_whole fzero (pos 0) zero_whole;
      columns = p.columns;
      pointer_count = p.pointer_count;
      cost_count = p.cost_count;
      few_columns = p.few_columns;
      few_entries = p.few_entries;
      product = product g.pattern.n;
      good = λ k h. (r k h).0;
      low = λ k h. (r k h).1;
      high = λ k h. (r k h).2;
    }
  where
    near : Arithmetic Number (whole_limit * units_per_one) units_per_one
    near = unfold units_per_one in near_arithmetic 1074 (le_refl 1074)

pub whole_setting : (g : CostGraph) → Accepted g → WholeCosts g → Setting IsWhole 0 (cost_limit g.pattern.n) g
whole_setting g a w =
    let p = passed g a in
    let r : (k : ℕ) → k < entries g.pattern → Number (cost_of g k) × (origin ≤ position (cost_of g k))
    × (position (cost_of g k) < origin + cost_limit g.pattern.n * units_per_one) =
    λ k h. fits_number g.pattern.n (cost_of g k) (some_column p k h) (w k h).1.double (p.ranges k h) in
    record {
      laws = whole_arithmetic;
      fine = zero-le;
      zero_good = (pos 0, zero_whole);
      columns = p.columns;
      pointer_count = p.pointer_count;
      cost_count = p.cost_count;
      few_columns = p.few_columns;
      few_entries = p.few_entries;
      product = product g.pattern.n;
      good = w;
      low = λ k h. (r k h).1;
      high = λ k h. (r k h).2;
    }

-- the same graph with a smaller limit that its costs are below
pub below_setting : {D : ℕ} {g : CostGraph} → Setting IsWhole 0 D g → (C : ℕ) → C ≤ D → ((k : ℕ) → k < entries g.pattern → amount g k < C)
    → Setting IsWhole 0 C g
unfolding amount
below_setting {D} {g} S C less h = record {
  laws = S.laws;
  fine = S.fine;
  zero_good = S.zero_good;
  columns = S.columns;
  pointer_count = S.pointer_count;
  cost_count = S.cost_count;
  few_columns = S.few_columns;
  few_entries = S.few_entries;
  product = le_trans (mul-le-mul_left g.pattern.n less) S.product;
  good = S.good;
  low = S.low;
  high = λ k l. let c = cost_of g k in let m = mul-lt-mul_of_pos_right (h k l) units_pos in
      omega (arith, natural (whole_of c) (position c) (S.low k l) (number_key c (S.good k l)));
}
