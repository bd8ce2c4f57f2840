-- SPECIFICATION 7.5: Log factors by the number of a rule, as the C interface has them: 0 is the identity, 1 Duff and
-- Pralet's; any other is refused with 5 before all else. A wrong length of `unmatched` is a wrong length of the rule's
-- call.
use Rattle.std.specs.Prelude.{◌≡◌, false, cond, List, [], ◌∷◌, ℕ, zero, suc, leb, eqb, Float, length, Result, Ok, Err}
use Rattle.limits.specs.Limits.{max_symmetric}
use Rattle.refusal.specs.Refusal.{accepted, index_range}
use Rattle.refusal.specs.Number.{fault_of}
use Rattle.refusal.specs.Listed.{OneOf, rule_numbers}
use Rattle.slices.specs.Outcome.{Outcome, outcome_is, as_number, refusing}
use Rattle.sparse.specs.Validate.{size_fault}
use Rattle.matching.specs.Match.{Match}
use Rattle.factors_mc64.specs.declared.Scaled.{Scaled}
use Rattle.factors_mc64.specs.Calls.{Slices, unmatched_of}
use Rattle.factors_flat.specs.declared.Rule.{Rule}
use Rattle.factors_flat.specs.declared.Rule.TheVariants.{Identity, Flat}
use Rattle.factors_flat.specs.Flat.{Input, columns}
use Rattle.factors_flat.specs.Call.{Shared, rule_fault, rule_scaled}

-- the rule of a number
abbrev pub rule_of : ℕ → Rule
rule_of zero = Identity
rule_of (suc number) = Flat

-- the same, or 5 for a number that is no rule's
abbrev pub rule_by : ℕ → Result Rule ℕ
rule_by number = cond (leb number 1) (Ok (rule_of number)) (Err index_range)

-- the fault of a call of the rule with wrong lengths
abbrev pub unfit_fault : Rule → ℕ → ℕ → ℕ
unfit_fault Identity n count = size_fault n 0 0 false
unfit_fault Flat n count = size_fault n max_symmetric count false

-- what is lent: the slices of the rule's call, and one place for the unmatched count
pub record Lent : Type 0 where
  pub scaled : Slices
  pub unmatched : List ℕ

abbrev pub lent : Slices → List ℕ → Lent
lent scaled unmatched = record { scaled = scaled; unmatched = unmatched }

-- the count left: the number of unmatched columns, or what was there if there are no factors
abbrev pub count_left : Result Scaled ℕ → List ℕ → List ℕ
count_left (Ok scaled) old = unmatched_of (Ok scaled) ∷ []
count_left (Err number) old = old

-- an outcome of the rule's call as a number and a count
abbrev pub result_of : Outcome (Result Scaled ℕ) Slices → List ℕ → Outcome ℕ Lent
result_of o old = outcome_is (fault_of o.answer) (lent o.after (count_left o.answer old))

-- the first thing wrong, or 0
unfoldable pub number_fault : ℕ → ℕ → Input → Slices → List ℕ → ℕ
number_fault number matched g s old =
    cond (leb number 1)
    (cond (eqb (length old) 1) (rule_fault (rule_of number) matched g s)
    (unfit_fault (rule_of number) (columns g) (length g.stored.pattern.row_idx)))
    index_range

-- what `factors_by_number` does
unfoldable pub result_by : ℕ → ℕ → Input → Slices → List ℕ → Outcome ℕ Lent
unfolding number_fault
result_by number matched g s old =
    refusing as_number (number_fault number matched g s old) (result_of (rule_scaled (rule_of number) matched g) old)
    (lent s old)

-- of an accepted call
abbrev pub SharesBy : ℕ → Match Float → ℕ → List Float → Type 0
SharesBy n c number factors = number ≡ accepted → Shared n c factors

-- ---- all that `factors_by_number` promises, of what was lent, its answer r and what is left; and
-- `suontarvi_log_factors_by_rule`
pub record NumberPromises (rule matched : ℕ) (g : Input) (before : Slices) (old : List ℕ) (r : ℕ) (after : Slices)
    (left : List ℕ) : Type 0 where
  -- the number answered and every slice left are the definition's
  pub result : outcome_is r (lent after left) ≡ result_by rule matched g before old
  -- what both rules share holds of the factors of an accepted call
  pub shared : SharesBy (columns g) g.pairs r after.factors
  -- the number answered is one of the call's list
  pub number : OneOf rule_numbers r
