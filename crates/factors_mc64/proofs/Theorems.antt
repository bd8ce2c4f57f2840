-- Which numbers the two calls answer, for any input: the unsymmetric one never gives 10. From the tests of each fault.
use mathlib.Core.Path.{◌≡◌, refl, sym, ap, subst}
use mathlib.Core.Bool.{Bool}
use mathlib.Core.List.{List}
use Prim.Native.Nat.{ℕ, zero, suc, ◌-◌}
use lib.Dec.{leb}
use lib.Ieee.{Float}
use lib.ListN.{length, get_or}
use Rattle.limits.specs.Limits.{max_columns}
use Rattle.std.specs.Prelude.{Result, Err}
use Rattle.refusal.specs.Number.{fault_of}
use Rattle.refusal.specs.Refusal.{too_many_columns, slice_length, matching_range}
use Rattle.refusal.specs.Listed.{listed, OneOf, log_factor_numbers, unsymmetric_numbers}
use Rattle.slices.specs.Outcome.{Outcome, outcome_is, as_number, refusing}
use Rattle.sparse.specs.Validate.{size_fault}
use Rattle.sparse.proofs.Listed.{Listed, test, or_listed, first_listed, within, part}
use Rattle.matching.specs.Match.{Match}
use Rattle.factors_mc64.specs.declared.Scaled.{Scaled}
use Rattle.factors_mc64.specs.Calls.{Slices, sizes, lengths, row_or_none, matching_fault, log_factors_fault, AnswersBy, symmetric_outcome}
use Rattle.factors_mc64.specs.Calls.{Sides, sides, side_lengths, unsymmetric_outcome, scaled, sides_scaled, SymmetricPromises, UnsymmetricPromises}

pub sizes_listed : (n : ℕ) (fit : Bool) → Listed unsymmetric_numbers (sizes n fit)
unfolding listed size_fault
sizes_listed n fit = or_listed (test (leb n max_columns) too_many_columns refl refl) (test fit slice_length refl refl)

pub matching_listed : (n matched : ℕ) (perm : List ℕ) → Listed log_factor_numbers (matching_fault n matched perm)
unfolding listed matching_fault
matching_listed n matched perm =
    or_listed (test (leb matched n) matching_range refl refl)
    (first_listed (length perm) 0 refl (λ k. test (row_or_none n (get_or perm k 0)) matching_range refl refl))

pub fault_listed : (n matched : ℕ) (c : Match Float) (s : Slices) → Listed log_factor_numbers (log_factors_fault n matched c s)
unfolding listed within
fault_listed n matched c s = or_listed (part unsymmetric_numbers (sizes_listed n (lengths n c s)) refl) (matching_listed n matched c.perm)

-- what the symmetric call promises, with its number
pub with_number : (n matched : ℕ) (c : Match Float) (s : Slices) {answer : Result Scaled ℕ} {after : Slices}
    → (outcome_is answer after ≡ symmetric_outcome n matched c s) × AnswersBy (log_factors_fault n matched c s) (n - matched) answer
    → SymmetricPromises n matched c s answer after
with_number n matched c s p =
    record {
      outcome = p.0;
      answered = p.1;
      number = subst (OneOf log_factor_numbers) (sym p.1.number) (fault_listed n matched c s).is;
    }

pub log_factors_listed : (n matched : ℕ) (c : Match Float) (s : Slices) → Listed log_factor_numbers (fault_of (symmetric_outcome n matched c s).answer)
unfolding symmetric_outcome
log_factors_listed n matched c s = go (log_factors_fault n matched c s) (fault_listed n matched c s)
  where
    go : (fault : ℕ) → Listed log_factor_numbers fault → Listed log_factor_numbers (fault_of (refusing Err fault (scaled n matched c) s).answer)
    go zero p = p
    go (suc fault) p = p

pub unsymmetric_listed : (n : ℕ) (u v cmax rows columns : List Float) → Listed unsymmetric_numbers (unsymmetric_outcome n u v cmax rows columns).answer
unfolding unsymmetric_outcome
unsymmetric_listed n u v cmax rows columns = go (sizes n (side_lengths n u v cmax rows columns)) (sizes_listed n (side_lengths n u v cmax rows columns))
  where
    go : (fault : ℕ) → Listed unsymmetric_numbers fault → Listed unsymmetric_numbers
        (refusing as_number fault (sides_scaled n u v cmax) (sides rows columns)).answer
    go zero p = p
    go (suc fault) p = p

-- what the unsymmetric call promises, with its number
pub sides_number : (n : ℕ) (u v cmax rows columns : List Float) {number : ℕ} {r c : List Float}
    → outcome_is number (sides r c) ≡ unsymmetric_outcome n u v cmax rows columns → UnsymmetricPromises n u v cmax rows columns number r c
sides_number n u v cmax rows columns e =
    record {
      outcome = e;
      number = subst (OneOf unsymmetric_numbers) (sym (ap (λ (o : Outcome ℕ Sides). o.answer) e)) (unsymmetric_listed n u v cmax rows columns).is;
    }
