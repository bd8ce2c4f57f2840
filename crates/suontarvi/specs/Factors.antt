-- SPECIFICATION 7: Log factors over the C interface: what mc64_factors does, with its answer as a number and the
-- unmatched count. The unsymmetric call answers a number already (mc64_factors' unsymmetric_outcome).
use Rattle.std.specs.Prelude.{◌≡◌, false, cond, List, [], ◌∷◌, ℕ, eqb, Float, Result, Ok, Err, length}
use Rattle.refusal.specs.Listed.{OneOf, log_factor_numbers}
use Rattle.refusal.specs.Number.{fault_of}
use Rattle.slices.specs.Outcome.{Outcome, outcome_is, refusing, as_number}
use Rattle.matching.specs.Match.{Match}
use Rattle.factors_mc64.specs.declared.Scaled.{Scaled}
use Rattle.factors_mc64.specs.Calls.{unmatched_of, sizes, Slices, log_factors_fault, scaled}
use Rattle.byte_forms.specs.FactorBytes.{FactorBytes}

-- the count left: the number of unmatched columns, or what was there if there are no factors
abbrev pub unmatched_left : Result Scaled ℕ → List ℕ → List ℕ
unmatched_left (Ok done) old = unmatched_of (Ok done) ∷ []
unmatched_left (Err fault) old = old

-- what is lent: the slices of the factors, and one place for the unmatched count
pub record Lent : Type 0 where
  pub slices : Slices
  pub unmatched : List ℕ

abbrev pub lent : Slices → List ℕ → Lent
lent slices unmatched = record { slices = slices; unmatched = unmatched }

-- an outcome of the call as a number and a count
abbrev pub factors_result_of : Outcome (Result Scaled ℕ) Slices → List ℕ → Outcome ℕ Lent
factors_result_of o old = outcome_is (fault_of o.answer) (lent o.after (unmatched_left o.answer old))

-- the first thing wrong, or 0. A wrong length of `unmatched` is a wrong length: 1 comes before it, 10 after
unfoldable pub factors_fault : ℕ → ℕ → Match Float → Slices → List ℕ → ℕ
factors_fault n matched c s old = cond (eqb (length old) 1) (log_factors_fault n matched c s) (sizes n false)

-- what `suontarvi_log_factors` does
unfoldable pub log_factors_result : ℕ → ℕ → Match Float → Slices → List ℕ → Outcome ℕ Lent
unfolding factors_fault
log_factors_result n matched c s old =
    refusing as_number (factors_fault n matched c s old) (factors_result_of (scaled n matched c) old) (lent s old)

-- ---- all that the calls promise
-- `suontarvi_log_factors`, of the match, what was lent and the result t
pub record FactorsPromises (n matched : ℕ) (c : Match Float) (before : Slices) (old : List ℕ) (t : Outcome ℕ Lent)
    : Type 0 where
  -- the number and every slice left are the definition's
  pub outcome : t ≡ log_factors_result n matched c before old
  -- the number is one of the call's list
  pub number : OneOf log_factor_numbers t.answer

-- the factors as bytes, symmetric and unsymmetric: by the call's list of numbers and by what it does, of the result t
pub record FactorBytesPromises (numbers : List ℕ) (does t : Outcome ℕ FactorBytes) : Type 0 where
  -- the number and every byte left are the definition's
  pub outcome : t ≡ does
  -- the number is one of the call's list
  pub number : OneOf numbers t.answer
