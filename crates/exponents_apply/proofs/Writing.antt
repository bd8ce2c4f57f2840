-- Values scaled column after column: each turn adds a place, each column a stretch, and all of them are the definition's list. By cases on the place written.
use mathlib.Core.Path.{◌≡◌, refl, sym, ap₂, ◌∙◌, subst}
use mathlib.Core.Bool.{true}
use mathlib.Core.List.{List}
use Prim.Native.Nat.{ℕ, suc, ◌+◌, ◌≤◌, ◌<◌}
use native.Mathlib.Decide.{ℕ_discrete, dec_lt}
use native.Mathlib.Omega.{arith}
use lib.IntN.{ℤ, ◌+ℤ◌}
use lib.ListN.{length, get_or, set, length-set}
use lib.Seq.{get_or-set_same, get_or-set_other, ext_get_or}
use Rattle.refusal.specs.Refusal.{value_not_normal}
use Rattle.slices.specs.Lists.{tabulate}
use Rattle.slices.proofs.Lists.{length_table, table_at}
use Rattle.sparse.specs.Fault.{unless}
use Rattle.sparse.specs.Columns.{Columns}
use Rattle.sparse.proofs.First.{unless_holds, span_zero, all_zero}
use Rattle.sparse.specs.Pattern.{Pattern, InColumn}
use Rattle.sparse.proofs.Columns.{column-is}
use Rattle.exponents_powers.specs.Power.{scalable, scaled_bits, Exponents}
use Rattle.exponents_apply.specs.Apply.{exponent_at, place_fault, column_fault, values_fault, shift_at, scaled_values}
use Rattle.exponents_apply.specs.inner.Steps.{Written}

-- ---- the places of one column
-- what place k is to hold
abbrev pub target : List ℕ → List ℤ → ℤ → List ℕ → ℕ → ℕ
target rows r e values k = scaled_bits (get_or values k 0) (exponent_at r (get_or rows k 0) +ℤ e)

pub none_written : (f : ℕ → ℕ) (k : ℕ) (values : List ℕ) → Written f k k values values
none_written f k values = record { same = refl; done = λ i a b. let z : ⊥ = omega arith in absurd z; under = λ i h. refl; over = λ i h. refl }

pub one_more : {f : ℕ → ℕ} {from k x : ℕ} {before now : List ℕ} → from ≤ k → k < length before → x ≡ f k → Written f from k before now
    → Written f from (k + 1) before (set now k x)
one_more {f} {from} {k} {x} {before} {now} l h e w = record {
  same = length-set now k x ∙ w.same;
  done = λ i a b. at i a b (ℕ_discrete i k);
  under = λ i a. get_or-set_other now k i x 0 (λ q. let z : ⊥ = omega arith in z) ∙ w.under i a;
  over = λ i a. get_or-set_other now k i x 0 (λ q. let z : ⊥ = omega arith in z) ∙ w.over i (omega arith);
}
  where
    at : (i : ℕ) → from ≤ i → i < k + 1 → Dec (i ≡ k) → get_or (set now k x) i 0 ≡ f i
    at i a b (yes q) = rw q (get_or-set_same now k x 0 (omega (arith, w.same)) ∙ e)
    at i a b (no q) = get_or-set_other now k i x 0 q ∙ w.done i a (omega arith)

-- a column without a fault is scalable at each place
pub place_scalable : (rows : List ℕ) (r : List ℤ) (e : ℤ) (values : List ℕ) (from to : ℕ) → column_fault rows r e values from to ≡ 0
    → (k : ℕ) → from ≤ k → k < to → scalable (get_or values k 0) (exponent_at r (get_or rows k 0) +ℤ e) ≡ true
unfolding column_fault
place_scalable rows r e values from to h k a b = unless_holds _ value_not_normal (omega arith) ((span_zero (place_fault rows r e values) from to).0 h k a b)

-- and still is where no place of it has been written
pub fault_kept : (rows : List ℕ) (r : List ℤ) (e : ℤ) (before now : List ℕ) (from to : ℕ) → ((k : ℕ) → from ≤ k → get_or now k 0 ≡ get_or before k 0)
    → column_fault rows r e before from to ≡ 0 → column_fault rows r e now from to ≡ 0
unfolding column_fault
fault_kept rows r e before now from to s h =
    (span_zero (place_fault rows r e now) from to).1
    (λ k a b. subst (λ (v : ℕ). UnlessScalable k v) (sym (s k a)) ((span_zero (place_fault rows r e before) from to).0 h k a b))
  where
    UnlessScalable : ℕ → ℕ → Type 0
    UnlessScalable k v = unless (scalable v (exponent_at r (get_or rows k 0) +ℤ e)) value_not_normal ≡ 0

-- ---- column after column
pub stretch_more : {f g : ℕ → ℕ} {from to : ℕ} {before now after : List ℕ} → from ≤ to → ((k : ℕ) → from ≤ k → k < to → g k ≡ f k)
    → Written f 0 from before now → Written g from to now after → Written f 0 to before after
stretch_more {f} {g} {from} {to} {before} {now} {after} h e w v = record {
  same = v.same ∙ w.same;
  done = λ k a b. at k b (dec_lt k from);
  under = λ k a. let z : ⊥ = omega arith in absurd z;
  over = λ k a. v.over k a ∙ w.over k (omega arith);
}
  where
    at : (k : ℕ) → k < to → Dec (k < from) → get_or after k 0 ≡ f k
    at k b (yes l) = v.under k l ∙ w.done k (omega arith) l
    at k b (no l) = v.done k (omega arith) b ∙ e k (omega arith) b

-- the definition's value of a place
abbrev pub scaled_at : Pattern → Exponents → List ℕ → ℕ → ℕ
scaled_at m e values k = scaled_bits (get_or values k 0) (shift_at m e k)

module _ (m : Pattern) (e : Exponents) (before : List ℕ) (w : Columns m.n m.col_ptr m.row_idx) where
  -- column j's own function is the definition's, at the column's places
  pub own_place : {now : List ℕ} (j : ℕ) → j < m.n → Written (scaled_at m e before) 0 (get_or m.col_ptr j 0) before now
      → (k : ℕ) → get_or m.col_ptr j 0 ≤ k → k < get_or m.col_ptr (suc j) 0
      → scaled_bits (get_or now k 0) (exponent_at e.rows (get_or m.row_idx k 0) +ℤ exponent_at e.columns j) ≡ scaled_at m e before k
  own_place {now} j h v k a b =
      let c : InColumn m j k = record { column = h; above = a; below = b } in
      ap₂ (λ (x i : ℕ). scaled_bits x (exponent_at e.rows (get_or m.row_idx k 0) +ℤ exponent_at e.columns i)) (v.over k a) (sym (column-is m w j k c))

  pub column_clean : {now : List ℕ} (j : ℕ) → j < m.n → values_fault m e before ≡ 0 → Written (scaled_at m e before) 0 (get_or m.col_ptr j 0) before now
      → column_fault m.row_idx e.rows (exponent_at e.columns j) now (get_or m.col_ptr j 0) (get_or m.col_ptr (suc j) 0) ≡ 0
  unfolding values_fault
  column_clean {now} j h z v =
      fault_kept m.row_idx e.rows (exponent_at e.columns j) before now (get_or m.col_ptr j 0) (get_or m.col_ptr (suc j) 0) v.over
      ((all_zero _ m.n).0 z j h)

pub all_written : (m : Pattern) (e : Exponents) (before after : List ℕ) → length before ≡ length m.row_idx → Written (scaled_at m e before) 0
    (length m.row_idx) before after → after ≡ scaled_values m e before
unfolding scaled_values
all_written m e before after s w =
    ext_get_or 0 after (tabulate (length before) (scaled_at m e before)) (w.same ∙ sym (length_table (length before) (scaled_at m e before)))
    (λ k h. w.done k (omega arith) (omega (arith, w.same)) ∙ sym (table_at (length before) (scaled_at m e before) k (omega (arith, w.same))))
