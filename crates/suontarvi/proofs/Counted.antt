-- What a call over C answers where the call behind it answers a count: the number of that answer, and what is promised of
-- the answer by numbers.
use Rattle.std.proofs.Common.{◌≡◌, ◌∙◌, List, ℕ, Result, sym, ap, subst}
use Rattle.refusal.specs.declared.Refusal.{Refusal}
use Rattle.refusal.specs.Listed.{OneOf}
use Rattle.refusal.specs.Number.{number_of, numbered, fault_of}
use Rattle.refusal.proofs.Numbers.{fault_numbered}
use Rattle.slices.specs.Outcome.{outcome_is, Outcome}
use Rattle.suontarvi.specs.Numbered.{Promises}

module _ (made : Result ℕ Refusal) {r : ℕ} (q : r ≡ number_of made) where
  -- a number over C is that of the answer by numbers
  pub number_told : r ≡ fault_of (numbered made)
  number_told = q ∙ sym (fault_numbered made)

  pub counted : {S : Type 0} (numbers : List ℕ) {after : S} {does : Outcome (Result ℕ ℕ) S} → outcome_is (numbered made) after ≡ does → OneOf numbers (fault_of (numbered made))
      → Promises numbers does r after
  counted {S} numbers e l =
      record {
        outcome = (number_told ∙ ap (λ (o : Outcome (Result ℕ ℕ) S). fault_of o.answer) e, ap (λ (o : Outcome (Result ℕ ℕ) S). o.after) e);
        number = subst (OneOf numbers) (sym number_told) l;
      }

-- the number of an answer by numbers is one of the list where that of the same answer is
pub in_list : (numbers : List ℕ) {a b : Result ℕ ℕ} → OneOf numbers (fault_of a) → a ≡ b → OneOf numbers (fault_of b)
in_list numbers l e = subst (λ (x : Result ℕ ℕ). OneOf numbers (fault_of x)) e l
