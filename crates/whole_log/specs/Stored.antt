-- SPECIFICATION 9.1: What the call that stores a logarithm answers and leaves: 3 unless the slice has one place, then 9
-- like the logarithm itself; a refusal changes nothing.
use Rattle.std.specs.Prelude.{◌≡◌, cond, List, [], ◌∷◌, ℕ, eqb, ℤ, Float, length}
use Rattle.refusal.specs.Refusal.{accepted, slice_length}
use Rattle.refusal.specs.Listed.{OneOf, stored_log_numbers}
use Rattle.slices.specs.Outcome.{Outcome, outcome_is, refusing, as_number}
use Rattle.whole_log.specs.Log.{log_fault, value_of, whole_log, Logarithm}

-- the number answered
abbrev pub stored_fault : Float → List ℤ → ℕ
stored_fault x p = cond (eqb (length p) 1) (log_fault x) slice_length

-- what the call does: a refused call leaves the slice as it is
abbrev pub stored_log : Float → List ℤ → Outcome ℕ (List ℤ)
stored_log x p = refusing as_number (stored_fault x p) (outcome_is accepted (value_of (whole_log x) ∷ [])) p

-- an accepted call leaves the logarithm of x
abbrev pub Stored : Float → ℕ → List ℤ → Type 0
Stored x number after = number ≡ accepted → (p : ℤ) × (after ≡ p ∷ []) × Logarithm x p

-- ---- all that `store_log` and `suontarvi_whole_log` promise, of x, the slice lent, the answer r and the slice left
pub record Promises (x : Float) (before : List ℤ) (r : ℕ) (after : List ℤ) : Type 0 where
  -- the answer and the slice left are the definition's
  pub outcome : outcome_is r after ≡ stored_log x before
  -- an accepted call leaves the logarithm
  pub bounds : Stored x r after
  -- the number is one of the call's list
  pub number : OneOf stored_log_numbers r
