-- The answer of `validate` and its number: an answer with the number 0 accepts, and the number of an answer is the fault that it was made of. By
-- the cases of the answer.
use Rattle.std.proofs.Common.{◌≡◌, ◌∙◌, ℕ, Result, Ok, Err, refl}
use Rattle.refusal.specs.declared.Refusal.{Refusal}
use Rattle.refusal.specs.Number.{number_of}
use Rattle.refusal.proofs.Numbers.{number_ne_zero}

pub accepted_is : {x : ℕ} → x ≡ 0 → (answer : Result Unit Refusal) → number_of answer ≡ x → Ok tt ≡ answer
accepted_is e (Ok u) q = refl
accepted_is e (Err refusal) q = absurd (number_ne_zero refusal (q ∙ e))

-- the number of an answer is the fault that it was made of
pub number_told : (answer : Result Unit Refusal) {number fault : ℕ} → number ≡ number_of answer → number_of answer ≡ fault → number ≡ fault
number_told answer e q = e ∙ q
