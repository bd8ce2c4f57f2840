-- A call is accepted exactly if its lengths fit, the matrix and the exponents pass, and every place is scalable. From the laws of the first fault;
-- each place lies in the column that `column_of` counts out.
use mathlib.Core.Path.{◌≡◌, refl, sym, ◌∙◌, subst}
use mathlib.Core.Bool.{Bool, true}
use mathlib.Core.List.{List}
use Prim.Native.Nat.{ℕ, suc, ◌+◌, ◌≤◌, ◌<◌}
use native.Mathlib.Omega.{arith}
use borrow.Author.Tests.{eqb-true}
use lib.Dec.{eqb}
use lib.IntN.{◌+ℤ◌}
use lib.ListN.{length, get_or}
use Rattle.refusal.specs.Refusal.{value_not_normal}
use Rattle.slices.proofs.Bools.{both}
use Rattle.sparse.specs.Columns.{Columns}
use Rattle.sparse.specs.Validate.{pattern_fault}
use Rattle.sparse.proofs.First.{or-none, or-zero, unless_holds, span_zero, all_zero}
use Rattle.sparse.proofs.Accepted.{pattern_accepted}
use Rattle.sparse.specs.Pattern.{Pattern, column_of, InColumn}
use Rattle.sparse.proofs.Columns.{column-is, in_column_lem, in_entries}
use Rattle.exponents_powers.specs.Power.{scalable, Exponents}
use Rattle.exponents_apply.specs.Apply.{exponent_at, lengths_fit, limit_fault, place_fault, column_fault, values_fault}
use Rattle.exponents_apply.specs.Apply.{apply_fault, shift_at}

pub record Accepted (m : Pattern) (e : Exponents) (values : List ℕ) : Type 0 where
  pub matrix : pattern_fault m true ≡ 0
  pub lengths : lengths_fit m e (length values) ≡ true
  pub rows : limit_fault e.rows ≡ 0
  pub columns : limit_fault e.columns ≡ 0
  pub each : (k : ℕ) → k < length values → scalable (get_or values k 0) (shift_at m e k) ≡ true

-- ---- the four lengths
pub record Lengths (m : Pattern) (e : Exponents) (values : ℕ) : Type 0 where
  pub colptrs : eqb (length m.col_ptr) (m.n + 1) ≡ true
  pub stored : eqb values (length m.row_idx) ≡ true
  pub of_rows : length e.rows ≡ m.n
  pub of_columns : length e.columns ≡ m.n

pub lengths_are : (m : Pattern) (e : Exponents) (values : ℕ) → lengths_fit m e values ≡ true → Lengths m e values
lengths_are m e values h =
    let a = both (eqb (length m.col_ptr) (m.n + 1)) _ h in
    let b = both (eqb values (length m.row_idx)) _ a.1 in
    let c = both (eqb (length e.rows) m.n) _ b.1 in
    record { colptrs = a.0; stored = b.0; of_rows = eqb-true (length e.rows) m.n c.0; of_columns = eqb-true (length e.columns) m.n c.1 }

-- ---- the values
module _ (m : Pattern) (e : Exponents) (values : List ℕ) (w : Columns m.n m.col_ptr m.row_idx) where
  each_scalable : length values ≡ length m.row_idx → values_fault m e values ≡ 0 → (k : ℕ) → k < length values → scalable (get_or values k 0)
      (shift_at m e k) ≡ true
  unfolding values_fault column_fault
  each_scalable l h k i =
      let c : InColumn m (column_of m k) k = in_column_lem m w k (omega arith) in
      let column = (all_zero _ m.n).0 h (column_of m k) c.column in
      let place = (span_zero (place_fault m.row_idx e.rows (exponent_at e.columns (column_of m k)) values) (get_or m.col_ptr (column_of m k) 0)
      (get_or m.col_ptr (suc (column_of m k)) 0)).0 column k c.above c.below in
      unless_holds _ value_not_normal (omega arith) place

  none_at_fault : ((k : ℕ) → k < length m.row_idx → scalable (get_or values k 0) (shift_at m e k) ≡ true) → values_fault m e values ≡ 0
  unfolding values_fault column_fault
  none_at_fault h = (all_zero _ m.n).1
      (λ j i. (span_zero (place_fault m.row_idx e.rows (exponent_at e.columns j) values) (get_or m.col_ptr j 0) (get_or m.col_ptr (suc j) 0)).1
      (λ k a b. at j i k a b))
    where
      at : (j : ℕ) → j < m.n → (k : ℕ) → get_or m.col_ptr j 0 ≤ k → k < get_or m.col_ptr (suc j) 0 → place_fault m.row_idx e.rows
          (exponent_at e.columns j) values k ≡ 0
      at j i k a b =
          let c : InColumn m j k = record { column = i; above = a; below = b } in
          let s : scalable (get_or values k 0) (exponent_at e.rows (get_or m.row_idx k 0) +ℤ exponent_at e.columns j) ≡ true =
          subst (λ (x : ℕ). scalable (get_or values k 0) (exponent_at e.rows (get_or m.row_idx k 0) +ℤ exponent_at e.columns x) ≡ true)
          (column-is m w j k c) (h k (in_entries m w j k c)) in
          rw s refl

-- ---- the call
pub accepted_is : (m : Pattern) (e : Exponents) (values : List ℕ) → apply_fault m e values ≡ 0 → Accepted m e values
unfolding apply_fault
accepted_is m e values h =
    let a = or-zero (pattern_fault m (lengths_fit m e (length values))) _ h in
    let b = or-zero (limit_fault e.rows) _ a.1 in
    let c = or-zero (limit_fault e.columns) _ b.1 in
    let p = (pattern_accepted m (lengths_fit m e (length values))).0 a.0 in
    let l = p.2 in
    record {
      matrix = subst (λ (t : Bool). pattern_fault m t ≡ 0) l a.0;
      lengths = l;
      rows = b.0;
      columns = c.0;
      each = each_scalable m e values p.3 (eqb-true (length values) (length m.row_idx) (lengths_are m e (length values) l).stored) c.1;
    }

pub is_accepted : (m : Pattern) (e : Exponents) (values : List ℕ) → Accepted m e values → apply_fault m e values ≡ 0
unfolding apply_fault
is_accepted m e values a =
    let s : length values ≡ length m.row_idx = eqb-true (length values) (length m.row_idx) (lengths_are m e (length values) a.lengths).stored in
    or-none (subst (λ (t : Bool). pattern_fault m t ≡ 0) (sym a.lengths) a.matrix)
    ∙ or-none a.rows
    ∙ or-none a.columns
    ∙ none_at_fault m e values ((pattern_accepted m true).0 a.matrix).3 (λ k h. a.each k (omega arith))
