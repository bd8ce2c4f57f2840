-- What a call leaves: its answer, and what the slices that were lent to it then hold.
use Rattle.std.specs.Prelude.{ℕ, zero, suc}

pub record Outcome (A S : Type 0) : Type 0 where
  pub answer : A
  pub after : S

abbrev pub outcome_is : {A S : Type 0} → A → S → Outcome A S
outcome_is answer after = record { answer = answer; after = after }

-- the refusal of a call whose answer is a bare number
abbrev pub as_number : ℕ → ℕ
as_number number = number

-- A refused call changes nothing: without a fault the call does its work; otherwise it answers the fault and leaves
-- everything as it was.
abbrev pub refusing : {A S : Type 0} → (ℕ → A) → ℕ → Outcome A S → S → Outcome A S
refusing refused zero done before = done
refusing refused (suc fault) done before = outcome_is (refused (suc fault)) before
