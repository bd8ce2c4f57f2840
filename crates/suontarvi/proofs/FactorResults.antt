-- suontarvi_log_factors: the number and the count of each case of the answer, and the list that the number is of.
use Rattle.std.proofs.Common.{◌≡◌, ◌≢◌, ◌∙◌, false, List, ℕ, Float, Result, Ok, Err, length, set, refl, sym, ap, subst}
use borrow.Author.Tests.{eq-eqb, ne_eqb}
use Rattle.refusal.specs.Listed.{OneOf, log_factor_numbers}
use Rattle.slices.specs.Outcome.{outcome_is, Outcome, refusing, as_number}
use Rattle.slices.proofs.Lists.{only}
use Rattle.slices.proofs.Refusing.{refused_is, refusing_over}
use Rattle.matching.specs.Match.{Match}
use Rattle.factors_mc64.specs.declared.Scaled.{Scaled}
use Rattle.factors_mc64.specs.Calls.{sizes, Slices, symmetric_outcome, log_factors_fault, scaled, unmatched_of}
use Rattle.suontarvi.specs.Factors.{factors_result_of, log_factors_result, Lent, lent, factors_fault, FactorsPromises}
use Rattle.suontarvi.proofs.Theorems.{factors_listed}

abbrev Answered : Type 0
Answered = Outcome (Result Scaled ℕ) Slices

module _ (n matched : ℕ) (c : Match Float) (s : Slices) (old : List ℕ) where
  -- what the call promises, with its number
  pub with_number : {number : ℕ} {after : Slices} {left : List ℕ} → outcome_is number (lent after left) ≡ log_factors_result n matched c s old
      → FactorsPromises n matched c s old (outcome_is number (lent after left))
  with_number e =
      record { outcome = e; number = subst (OneOf log_factor_numbers) (sym (ap (λ (r : Outcome ℕ Lent). r.answer) e)) (factors_listed n matched c s old).is }

  pub unfit : {number : ℕ} → length old ≢ 1 → number ≢ 0 → number ≡ sizes n false → FactorsPromises n matched c s old (outcome_is number (lent s old))
  unfolding log_factors_result factors_fault
  unfit {number} h some e =
      let wrong : number ≡ factors_fault n matched c s old = rw (ne_eqb (length old) 1 h) e in
      with_number (refused_is as_number (factors_result_of (scaled n matched c) old) (lent s old) wrong some)

  -- the call as a number and a count
  factors_over : factors_result_of (symmetric_outcome n matched c s) old ≡ refusing as_number (log_factors_fault n matched c s)
      (factors_result_of (scaled n matched c) old) (lent s old)
  unfolding symmetric_outcome
  factors_over = refusing_over (λ (o : Answered). factors_result_of o old) Err as_number (log_factors_fault n matched c s)
      (scaled n matched c) s (lent s old) (λ k. refl)

  module _ (h : length old ≡ 1) {after : Slices} where
    result_of_lem : {a : Result Scaled ℕ} → outcome_is a after ≡ symmetric_outcome n matched c s
        → factors_result_of (outcome_is a after) old ≡ log_factors_result n matched c s old
    unfolding log_factors_result factors_fault
    result_of_lem e =
        let same : log_factors_fault n matched c s ≡ factors_fault n matched c s old = rw (eq-eqb (length old) 1 h) refl in
        ap (λ (o : Answered). factors_result_of o old) e ∙ factors_over
        ∙ ap (λ (f : ℕ). refusing as_number f (factors_result_of (scaled n matched c) old) (lent s old)) same

    pub done : (d : Scaled) → outcome_is (Ok d) after ≡ symmetric_outcome n matched c s
        → FactorsPromises n matched c s old (outcome_is 0 (lent after (set old 0 (unmatched_of (Ok d)))))
    done d e = with_number (ap (λ (l : List ℕ). outcome_is 0 (lent after l)) (only old (unmatched_of (Ok d)) h) ∙ result_of_lem e)

    pub refused : {k : ℕ} → outcome_is (Err k) after ≡ symmetric_outcome n matched c s → FactorsPromises n matched c s old (outcome_is k (lent after old))
    refused e = with_number (result_of_lem e)
