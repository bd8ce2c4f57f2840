-- Scaling twice is scaling by the sums, the opposite set brings the matrix back, and the order of two sets does not matter. One value's laws
-- (exponents_powers/proofs/Twice)
-- at every place of an accepted call.
use mathlib.Core.Path.{◌≡◌, refl, sym, ap, ap₂, ◌∙◌, subst}
use mathlib.Core.Bool.{Bool, true, ◌&&◌}
use mathlib.Core.List.{List, [], ◌∷◌}
use Prim.Native.Nat.{ℕ, zero, suc, ◌≤◌, ◌<◌}
use native.Mathlib.Nat.{suc_inj}
use native.Mathlib.Omega.{arith}
use borrow.Author.Tests.{eq-eqb, leb-true, le-leb}
use lib.Dec.{eqb, leb}
use lib.IntN.{ℤ, pos, negsuc, neg_ℤ, ◌+ℤ◌, neg_ℤ-+ℤ, +ℤ_comm}
use lib.ListN.{length, get_or}
use lib.Seq.{ext_get_or}
use Rattle.refusal.specs.Refusal.{exponent_range}
use Rattle.slices.proofs.Bools.{both}
use Rattle.slices.proofs.Lists.{length_table, table_at}
use Rattle.slices.specs.Outcome.{Outcome, outcome_is, refusing, as_number}
use Rattle.sparse.specs.Fault.{unless}
use Rattle.sparse.proofs.First.{all_zero, unless_holds}
use Rattle.float64.proofs.Integers.{sum_parts, same_integer}
use Rattle.sparse.specs.Pattern.{Pattern, column_of}
use Rattle.exponents_powers.specs.Power.{within_limit, scalable, scaled_bits, Exponents}
use Rattle.exponents_powers.proofs.Twice.{scaled_twice, scaled_back}
use Rattle.exponents_apply.specs.Apply.{exponent_at, lengths_fit, limit_fault, apply_fault, shift_at, scaled_values, apply_exponents}
use Rattle.exponents_apply.specs.Sums.{added, negated, sum_of, opposite_of}
use Rattle.exponents_apply.proofs.Accepted.{Accepted, lengths_are, accepted_is, is_accepted}

-- ---- an accepted call
by_fault : (f : ℕ) (new old : List ℕ) → (refusing as_number f (outcome_is 0 new) old).answer ≡ f
by_fault zero new old = refl
by_fault (suc f) new old = refl

accepted : (m : Pattern) (e : Exponents) (values : List ℕ) → (apply_exponents m e values).answer ≡ 0 → Accepted m e values
unfolding apply_exponents
accepted m e values h = accepted_is m e values (sym (by_fault (apply_fault m e values) (scaled_values m e values) values) ∙ h)

leaves : (m : Pattern) (e : Exponents) (values : List ℕ) → Accepted m e values → apply_exponents m e values ≡ outcome_is 0 (scaled_values m e values)
unfolding apply_exponents
leaves m e values a = ap (λ (f : ℕ). refusing as_number f (outcome_is 0 (scaled_values m e values)) values) (is_accepted m e values a)

scaled_length : (m : Pattern) (e : Exponents) (values : List ℕ) → length (scaled_values m e values) ≡ length values
unfolding scaled_values
scaled_length m e values = length_table (length values) (λ k. scaled_bits (get_or values k 0) (shift_at m e k))

scaled_at : (m : Pattern) (e : Exponents) (values : List ℕ) (k : ℕ) → k < length values → get_or (scaled_values m e values) k 0 ≡ scaled_bits
    (get_or values k 0) (shift_at m e k)
unfolding scaled_values
scaled_at m e values k h = table_at (length values) (λ k. scaled_bits (get_or values k 0) (shift_at m e k)) k h

lengths_fit_lem : (m : Pattern) (d e : Exponents) (l k : ℕ) → l ≡ k → lengths_fit m d l ≡ true → length e.rows ≡ m.n → length e.columns ≡ m.n
    → lengths_fit m e k ≡ true
lengths_fit_lem m d e l k s h r c =
    let a = lengths_are m d l h in
    ap₂ ◌&&◌ a.colptrs (ap₂ ◌&&◌ (ap (λ (x : ℕ). eqb x (length m.row_idx)) (sym s) ∙ a.stored)
    (ap₂ ◌&&◌ (eq-eqb (length e.rows) m.n r) (eq-eqb (length e.columns) m.n c)))

-- ---- sums and opposites of exponents
added_length : (k l : List ℤ) → length k ≡ length l → length (added k l) ≡ length k
unfolding added
added_length [] l h = refl
added_length (x ∷ k) [] h = let z : ⊥ = omega arith in absurd z
added_length (x ∷ k) (y ∷ l) h = ap suc (added_length k l (suc_inj h))

added_at : (k l : List ℤ) → length k ≡ length l → (i : ℕ) → exponent_at (added k l) i ≡ exponent_at k i +ℤ exponent_at l i
unfolding added
added_at [] [] h i = refl
added_at [] (y ∷ l) h i = let z : ⊥ = omega arith in absurd z
added_at (x ∷ k) [] h i = let z : ⊥ = omega arith in absurd z
added_at (x ∷ k) (y ∷ l) h zero = refl
added_at (x ∷ k) (y ∷ l) h (suc i) = added_at k l (suc_inj h) i

negated_length : (l : List ℤ) → length (negated l) ≡ length l
unfolding negated
negated_length [] = refl
negated_length (x ∷ l) = ap suc (negated_length l)

negated_at : (l : List ℤ) (i : ℕ) → exponent_at (negated l) i ≡ neg_ℤ (exponent_at l i)
unfolding negated
negated_at [] i = refl
negated_at (x ∷ l) zero = refl
negated_at (x ∷ l) (suc i) = negated_at l i

negated_within : (z : ℤ) → within_limit z ≡ true → within_limit (neg_ℤ z) ≡ true
unfolding within_limit
negated_within (pos zero) h = refl
negated_within (pos (suc n)) h =
    let l : suc n ≤ 67108864 = leb-true (suc n) 67108864 (both true (leb (suc n) 67108864) h).1 in
    ap (λ (t : Bool). t && true) (le-leb n 67108863 (omega arith))
negated_within (negsuc n) h =
    let l : n ≤ 67108863 = leb-true n 67108863 (both (leb n 67108863) true h).0 in
    ap (λ (t : Bool). true && t) (le-leb (suc n) 67108864 (omega arith))

negated_limit : (l : List ℤ) → limit_fault l ≡ 0 → limit_fault (negated l) ≡ 0
unfolding limit_fault
negated_limit l h = (all_zero _ (length (negated l))).1 (λ i b. at i b)
  where
    at : (i : ℕ) → i < length (negated l) → unless (within_limit (exponent_at (negated l) i)) exponent_range ≡ 0
    at i b =
        let w : within_limit (exponent_at l i) ≡ true =
        unless_holds _ exponent_range (omega arith) ((all_zero _ (length l)).0 h i (omega (arith, negated_length l))) in
        let n : within_limit (exponent_at (negated l) i) ≡ true = ap within_limit (negated_at l i) ∙ negated_within (exponent_at l i) w in
        rw n refl

regroup : (a b c d : ℤ) → (a +ℤ c) +ℤ (b +ℤ d) ≡ (a +ℤ b) +ℤ (c +ℤ d)
regroup a b c d =
    same_integer ((a +ℤ c) +ℤ (b +ℤ d)) ((a +ℤ b) +ℤ (c +ℤ d))
    (omega (arith, sum_parts a c, sum_parts b d, sum_parts a b, sum_parts c d, sum_parts (a +ℤ c) (b +ℤ d), sum_parts (a +ℤ b) (c +ℤ d)))

sum_shift : (m : Pattern) (d e : Exponents) → length d.rows ≡ length e.rows → length d.columns ≡ length e.columns → (k : ℕ)
    → shift_at m (sum_of d e) k ≡ shift_at m d k +ℤ shift_at m e k
sum_shift m d e r c k =
    let i = get_or m.row_idx k 0 in
    let j = column_of m k in
    ap₂ ◌+ℤ◌ (added_at d.rows e.rows r i) (added_at d.columns e.columns c j) ∙ regroup (exponent_at d.rows i) (exponent_at d.columns j)
    (exponent_at e.rows i) (exponent_at e.columns j)

opposite_shift : (m : Pattern) (e : Exponents) (k : ℕ) → shift_at m (opposite_of e) k ≡ neg_ℤ (shift_at m e k)
opposite_shift m e k =
    let i = get_or m.row_idx k 0 in
    let j = column_of m k in
    ap₂ ◌+ℤ◌ (negated_at e.rows i) (negated_at e.columns j) ∙ sym (neg_ℤ-+ℤ (exponent_at e.rows i) (exponent_at e.columns j))

-- ---- one set and then another: the sums are accepted, and leave the same values
module _ (m : Pattern) (d e : Exponents) (values : List ℕ) where
  abbrev once : List ℕ
  once = scaled_values m d values

  module _ (a : Accepted m d values) (b : Accepted m e once) where
    rows_alike : length d.rows ≡ length e.rows
    rows_alike = (lengths_are m d (length values) a.lengths).of_rows ∙ sym (lengths_are m e (length once) b.lengths).of_rows

    columns_alike : length d.columns ≡ length e.columns
    columns_alike = (lengths_are m d (length values) a.lengths).of_columns ∙ sym (lengths_are m e (length once) b.lengths).of_columns

    both_at : (k : ℕ) → k < length values
        → (scalable (get_or values k 0) (shift_at m (sum_of d e) k) ≡ true)
        × (scaled_bits (get_or once k 0) (shift_at m e k) ≡ scaled_bits (get_or values k 0) (shift_at m (sum_of d e) k))
    both_at k h =
        let v = get_or values k 0 in
        let at : get_or once k 0 ≡ scaled_bits v (shift_at m d k) = scaled_at m d values k h in
        let second : scalable (scaled_bits v (shift_at m d k)) (shift_at m e k) ≡ true =
        subst (λ (x : ℕ). scalable x (shift_at m e k) ≡ true) at (b.each k (omega (arith, scaled_length m d values))) in
        let t = scaled_twice v (shift_at m d k) (shift_at m e k) (a.each k h) second in
        let s : shift_at m d k +ℤ shift_at m e k ≡ shift_at m (sum_of d e) k = sym (sum_shift m d e rows_alike columns_alike k) in
        (subst (λ (z : ℤ). scalable v z ≡ true) s t.0, ap (λ (x : ℕ). scaled_bits x (shift_at m e k)) at ∙ t.1 ∙ ap (scaled_bits v) s)

    sums_accepted : limit_fault (sum_of d e).rows ≡ 0 → limit_fault (sum_of d e).columns ≡ 0 → Accepted m (sum_of d e) values
    sums_accepted r c =
        let l = lengths_are m d (length values) a.lengths in
        record {
          matrix = a.matrix;
          lengths = lengths_fit_lem m d (sum_of d e) (length values) (length values) refl a.lengths
              (added_length d.rows e.rows rows_alike ∙ l.of_rows) (added_length d.columns e.columns columns_alike ∙ l.of_columns);
          rows = r;
          columns = c;
          each = λ k h. (both_at k h).0;
        }

    sums_same : scaled_values m (sum_of d e) values ≡ scaled_values m e once
    sums_same =
        ext_get_or 0 (scaled_values m (sum_of d e) values) (scaled_values m e once)
        (scaled_length m (sum_of d e) values ∙ sym (scaled_length m d values) ∙ sym (scaled_length m e once))
        (λ k h. let i : k < length values = omega (arith, scaled_length m (sum_of d e) values) in
        scaled_at m (sum_of d e) values k i ∙ sym (both_at k i).1 ∙ sym (scaled_at m e once k (omega (arith, scaled_length m d values))))

-- If one set and then another are accepted, and the sums are within the limit, applying the sums is accepted and leaves the same values.
pub twice_is_sum : (m : Pattern) (d e : Exponents) (values : List ℕ) → (apply_exponents m d values).answer ≡ 0
    → (apply_exponents m e (apply_exponents m d values).after).answer ≡ 0
    → limit_fault (sum_of d e).rows ≡ 0 → limit_fault (sum_of d e).columns ≡ 0
    → apply_exponents m (sum_of d e) values ≡ outcome_is 0 (apply_exponents m e (apply_exponents m d values).after).after
twice_is_sum m d e values h k r c =
    let a = accepted m d values h in
    let first : (apply_exponents m d values).after ≡ scaled_values m d values = ap (λ (x : Outcome ℕ (List ℕ)). x.after) (leaves m d values a) in
    let b = accepted m e (scaled_values m d values) (subst (λ (v : List ℕ). (apply_exponents m e v).answer ≡ 0) first k) in
    let second : (apply_exponents m e (apply_exponents m d values).after).after ≡ scaled_values m e (scaled_values m d values) =
    ap (λ (v : List ℕ). (apply_exponents m e v).after) first ∙ ap (λ (x : Outcome ℕ (List ℕ)). x.after) (leaves m e (scaled_values m d values) b) in
    leaves m (sum_of d e) values (sums_accepted m d e values a b r c) ∙ ap (outcome_is 0) (sums_same m d e values a b ∙ sym second)

-- The opposite set is accepted after an accepted application, and brings the values back.
pub opposite_brings_back : (m : Pattern) (e : Exponents) (values : List ℕ) → (apply_exponents m e values).answer ≡ 0
    → apply_exponents m (opposite_of e) (apply_exponents m e values).after ≡ outcome_is 0 values
opposite_brings_back m e values h =
    let a = accepted m e values h in
    let once = scaled_values m e values in
    let first : (apply_exponents m e values).after ≡ once = ap (λ (x : Outcome ℕ (List ℕ)). x.after) (leaves m e values a) in
    let l = lengths_are m e (length values) a.lengths in
    let back : (k : ℕ) → k < length values → (scalable (get_or once k 0) (shift_at m (opposite_of e) k) ≡ true)
    × (scaled_bits (get_or once k 0) (shift_at m (opposite_of e) k) ≡ get_or values k 0) =
    λ k i. (let t = scaled_back (get_or values k 0) (shift_at m e k) (a.each k i) in
    let at = scaled_at m e values k i in
    let s = opposite_shift m e k in
    (ap₂ scalable at s ∙ t.0, ap₂ scaled_bits at s ∙ t.1)) in
    let b : Accepted m (opposite_of e) once = record {
      matrix = a.matrix;
      lengths = lengths_fit_lem m e (opposite_of e) (length values) (length once) (sym (scaled_length m e values)) a.lengths
          (negated_length e.rows ∙ l.of_rows) (negated_length e.columns ∙ l.of_columns);
      rows = negated_limit e.rows a.rows;
      columns = negated_limit e.columns a.columns;
      each = λ k i. (back k (omega (arith, scaled_length m e values))).0;
    } in
    let same : scaled_values m (opposite_of e) once ≡ values =
    ext_get_or 0 (scaled_values m (opposite_of e) once) values (scaled_length m (opposite_of e) once ∙ scaled_length m e values)
    (λ k i. let j : k < length once = omega (arith, scaled_length m (opposite_of e) once) in
    scaled_at m (opposite_of e) once k j ∙ (back k (omega (arith, scaled_length m e values))).1) in
    ap (apply_exponents m (opposite_of e)) first ∙ leaves m (opposite_of e) once b ∙ ap (outcome_is 0) same

-- Two sets leave the same values in either order, if both orders are accepted.
pub order_free : (m : Pattern) (d e : Exponents) (values : List ℕ)
    → (apply_exponents m d values).answer ≡ 0 → (apply_exponents m e (apply_exponents m d values).after).answer ≡ 0
    → (apply_exponents m e values).answer ≡ 0 → (apply_exponents m d (apply_exponents m e values).after).answer ≡ 0
    → apply_exponents m e (apply_exponents m d values).after ≡ apply_exponents m d (apply_exponents m e values).after
order_free m d e values h k h' k' =
    let a = accepted m d values h in
    let a' = accepted m e values h' in
    let first : (apply_exponents m d values).after ≡ scaled_values m d values = ap (λ (x : Outcome ℕ (List ℕ)). x.after) (leaves m d values a) in
    let first' : (apply_exponents m e values).after ≡ scaled_values m e values = ap (λ (x : Outcome ℕ (List ℕ)). x.after) (leaves m e values a') in
    let b = accepted m e (scaled_values m d values) (subst (λ (v : List ℕ). (apply_exponents m e v).answer ≡ 0) first k) in
    let b' = accepted m d (scaled_values m e values) (subst (λ (v : List ℕ). (apply_exponents m d v).answer ≡ 0) first' k') in
    let same : scaled_values m e (scaled_values m d values) ≡ scaled_values m d (scaled_values m e values) =
    ext_get_or 0 (scaled_values m e (scaled_values m d values)) (scaled_values m d (scaled_values m e values))
    (scaled_length m e (scaled_values m d values) ∙ scaled_length m d values ∙ sym (scaled_length m e values)
    ∙ sym (scaled_length m d (scaled_values m e values)))
    (λ k i. let i₀ : k < length values = omega (arith, scaled_length m e (scaled_values m d values), scaled_length m d values) in
    let t = both_at m d e values a b k i₀ in
    let t' = both_at m e d values a' b' k i₀ in
    let alike : shift_at m (sum_of d e) k ≡ shift_at m (sum_of e d) k =
    sum_shift m d e (rows_alike m d e values a b) (columns_alike m d e values a b) k ∙ +ℤ_comm (shift_at m d k) (shift_at m e k)
    ∙ sym (sum_shift m e d (rows_alike m e d values a' b') (columns_alike m e d values a' b') k) in
    scaled_at m e (scaled_values m d values) k (omega (arith, scaled_length m d values)) ∙ t.1 ∙ ap (scaled_bits (get_or values k 0)) alike ∙ sym t'.1
    ∙ sym (scaled_at m d (scaled_values m e values) k (omega (arith, scaled_length m e values)))) in
    ap (apply_exponents m e) first ∙ leaves m e (scaled_values m d values) b ∙ ap (outcome_is 0) same ∙ sym (leaves m d (scaled_values m e values) b')
    ∙ sym (ap (apply_exponents m d) first')
