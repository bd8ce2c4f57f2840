-- The call: the tests establish what the scaling requires; a refusal leaves the values, an accepted call the scaled ones, each scaled exactly.
use mathlib.Core.Path.{◌≡◌, refl, sym, ap, ◌∙◌, subst}
use mathlib.Core.Logic.{◌≢◌}
use mathlib.Core.List.{List}
use Prim.Native.Nat.{ℕ, zero, suc, ◌-◌}
use native.Mathlib.Omega.{arith}
use borrow.Author.Tests.{eqb-true}
use lib.IntN.{ℤ, ◌+ℤ◌}
use lib.ListN.{length, get_or}
use Rattle.refusal.specs.Refusal.{exponent_range, value_not_normal}
use Rattle.refusal.specs.Listed.{listed, general_numbers, apply_numbers, OneOf}
use Rattle.slices.specs.Outcome.{outcome_is, refusing, as_number}
use Rattle.sparse.specs.Validate.{pattern_fault}
use Rattle.sparse.proofs.Accepted.{pattern_accepted}
use Rattle.sparse.proofs.First.{unless_holds, all_zero}
use Rattle.sparse.proofs.Listed.{Listed, test, or_listed, first_listed, within, part}
use Rattle.sparse.proofs.Theorems.{pattern_listed}
use Rattle.sparse.specs.Pattern.{Pattern}
use Rattle.exponents_powers.specs.Power.{within_limit, scalable, Exponents}
use Rattle.exponents_powers.proofs.Exact.{scaled_exactly}
use Rattle.exponents_apply.specs.Apply.{exponent_at, lengths_fit, limit_fault, column_fault, values_fault, apply_fault}
use Rattle.exponents_apply.specs.Apply.{scaled_values, apply_exponents, Promises}
use Rattle.exponents_apply.specs.inner.Steps.{Within, Tested, Written}
use Rattle.exponents_apply.proofs.Accepted.{accepted_is, lengths_are}
use Rattle.exponents_apply.proofs.Writing.{scaled_at, all_written}

-- ---- what the tests leave
pub within_of : (l : List ℤ) → limit_fault l ≡ 0 → Within l
unfolding limit_fault
within_of l h i b = unless_holds (within_limit (exponent_at l i)) exponent_range (omega arith) ((all_zero _ (length l)).0 h i b)

pub tested : (m : Pattern) (e : Exponents) (values : List ℕ) → pattern_fault m (lengths_fit m e (length values)) ≡ 0 → limit_fault e.rows ≡ 0
    → limit_fault e.columns ≡ 0 → Tested m e values
tested m e values f r c =
    let a = (pattern_accepted m (lengths_fit m e (length values))).0 f in
    let l = lengths_are m e (length values) a.2 in
    let w = a.3 in
    record {
      colptrs = eqb-true _ _ l.colptrs;
      columns = w;
      places = record { stored = eqb-true _ _ l.stored; inside = λ k h. omega (arith, w.inside k h, l.of_rows); within = within_of e.rows r };
      exponents = l.of_columns;
      within = within_of e.columns c;
    }

-- ---- the number answered
pub numbered : (m : Pattern) (e : Exponents) (values : List ℕ) {fault : ℕ} → fault ≡ apply_fault m e values → OneOf apply_numbers fault
unfolding apply_fault limit_fault values_fault column_fault listed within
numbered m e values q = subst (OneOf apply_numbers) (sym q)
    (or_listed (part general_numbers (pattern_listed m (lengths_fit m e (length values))) refl)
    (or_listed (limits e.rows) (or_listed (limits e.columns) places))).is
  where
    limits : (l : List ℤ) → Listed apply_numbers (limit_fault l)
    limits l = first_listed (length l) 0 refl (λ i. test (within_limit (exponent_at l i)) exponent_range refl refl)

    places : Listed apply_numbers (values_fault m e values)
    places =
        first_listed m.n 0 refl
        (λ j. first_listed (get_or m.col_ptr (suc j) 0 - get_or m.col_ptr j 0) (get_or m.col_ptr j 0) refl
        (λ k. test (scalable (get_or values k 0) (exponent_at e.rows (get_or m.row_idx k 0) +ℤ exponent_at e.columns j)) value_not_normal refl refl))

-- ---- a refusal, and an accepted call
module _ (m : Pattern) (e : Exponents) (values : List ℕ) {fault : ℕ} (q : fault ≡ apply_fault m e values) where
  pub refuses : fault ≢ 0 → Promises m e values fault values
  unfolding apply_exponents
  refuses z =
      record {
        outcome = go fault z ∙ ap (λ (f : ℕ). refusing as_number f (outcome_is 0 (scaled_values m e values)) values) q;
        number = numbered m e values q;
        exact = λ h. absurd (z h);
      }
    where
      go : (f : ℕ) → f ≢ 0 → outcome_is f values ≡ refusing as_number f (outcome_is 0 (scaled_values m e values)) values
      go zero z = absurd (z refl)
      go (suc f) z = refl

pub accepts : (m : Pattern) (e : Exponents) (before after : List ℕ) → apply_fault m e before ≡ 0 → Written (scaled_at m e before) 0
    (length m.row_idx) before after
    → Promises m e before 0 after
unfolding apply_exponents
accepts m e before after z w =
    let a = accepted_is m e before z in
    let s : length before ≡ length m.row_idx = eqb-true _ _ (lengths_are m e (length before) a.lengths).stored in
    record {
      outcome =
          ap (outcome_is 0) (all_written m e before after s w)
          ∙ sym (ap (λ (f : ℕ). refusing as_number f (outcome_is 0 (scaled_values m e before)) before) z);
      number = numbered m e before (sym z);
      exact = λ h k i. rw (w.done k (omega arith) (omega arith)) (scaled_exactly (get_or before k 0) _ (a.each k i));
    }
