-- SPECIFICATION 7.5: What `log_factors_by_rule` answers and leaves by each rule, and what a caller may rely on. The
-- identity rule is `log_factors` and reads no matrix; the flat rule refuses as the building of the symmetric graph
-- does, then with 10.
use Rattle.std.specs.Prelude.{◌≡◌, Bool, true, ◌&&◌, List, ℕ, ◌+◌, ◌-◌, ◌<◌, eqb, Float, length, get_or, replicate, Result, Ok, Err}
use Rattle.std.specs.Float.{nan}
use Rattle.std.specs.Float.Ieee.{le}
use Rattle.refusal.specs.Refusal
use Rattle.refusal.specs.Number.{fault_of}
use Rattle.refusal.specs.Listed.{OneOf, rule_numbers}
use Rattle.slices.specs.Outcome.{Outcome, outcome_is, refusing}
use Rattle.float64.specs.Constants as Constants
use Rattle.sparse.specs.Fault.{or_else}
use Rattle.matching.specs.Match.{Match}
use Rattle.factors_mc64.specs.declared.Scaled.{Scaled}
use Rattle.factors_mc64.specs.Factors.{factor_at, symmetric_factors}
use Rattle.factors_mc64.specs.Calls.{Slices, slices, lengths, matching_fault, log_factors_fault, scaled}
use Rattle.factors_mc64.specs.Calls.{AnswersBy, applied_or_partial, symmetric_outcome}
use Rattle.mc64_symmetric.specs.Call.{input_fault}
use Rattle.factors_flat.specs.declared.Rule.{Rule}
use Rattle.factors_flat.specs.declared.Rule.TheVariants.{Identity, Flat}
use Rattle.factors_flat.specs.Flat.{Input, columns, is_matched, flat_factors}

-- 3: whether every slice has its length
unfoldable pub flat_lengths : Input → Slices → Bool
flat_lengths g s =
    eqb (length g.stored.pattern.col_ptr) (columns g + 1)
    && (eqb (length g.stored.values) (length g.stored.pattern.row_idx)
    && (eqb (length g.logs) (length g.stored.pattern.row_idx) && lengths (columns g) g.pairs s))

-- the first thing wrong by the flat rule, or 0: as for the symmetric graph, then 10
abbrev pub flat_fault : ℕ → Input → Slices → ℕ
flat_fault matched g s =
    or_else (input_fault g.stored g.logs (flat_lengths g s)) (matching_fault (columns g) matched g.pairs.perm)

-- by either rule
abbrev pub rule_fault : Rule → ℕ → Input → Slices → ℕ
rule_fault Identity matched g s = log_factors_fault (columns g) matched g.pairs s
rule_fault Flat matched g s = flat_fault matched g s

-- an accepted call by the flat rule: the factors, and work that is zero
abbrev pub flat_scaled : ℕ → Input → Outcome (Result Scaled ℕ) Slices
flat_scaled matched g =
    outcome_is (Ok (applied_or_partial (columns g) matched)) (slices (flat_factors g) (replicate (columns g) 0))

unfoldable pub flat_outcome : ℕ → Input → Slices → Outcome (Result Scaled ℕ) Slices
flat_outcome matched g s = refusing Err (flat_fault matched g s) (flat_scaled matched g) s

-- an accepted call by either rule
abbrev pub rule_scaled : Rule → ℕ → Input → Outcome (Result Scaled ℕ) Slices
rule_scaled Identity matched g = scaled (columns g) matched g.pairs
rule_scaled Flat matched g = flat_scaled matched g

-- what `log_factors_by_rule` does
abbrev pub rule_outcome : Rule → ℕ → Input → Slices → Outcome (Result Scaled ℕ) Slices
rule_outcome Identity matched g s = symmetric_outcome (columns g) matched g.pairs s
rule_outcome Flat matched g s = flat_outcome matched g s

-- ---- what a caller may rely on
-- between -709 and 709, and not NaN
abbrev pub Within : Float → Type 0
Within x = (le Constants.minus_log_huge x ≡ true) × (le x Constants.log_huge ≡ true)

-- what both rules share, of the factors of an accepted call
pub record Shared (n : ℕ) (c : Match Float) (factors : List Float) : Type 0 where
  -- a matched index has the factor of the identity rule
  pub kept : (i : ℕ) → i < n → is_matched n c i ≡ true → get_or factors i nan ≡ factor_at n c i
  -- without an unmatched index all factors are those of that rule
  pub agree : ((i : ℕ) → i < n → is_matched n c i ≡ true) → factors ≡ symmetric_factors n c
  -- every factor lies between -709 and 709
  pub within : (i : ℕ) → i < n → Within (get_or factors i nan)

abbrev pub Shares : ℕ → Match Float → Result Scaled ℕ → List Float → Type 0
Shares n c answer factors = fault_of answer ≡ Refusal.accepted → Shared n c factors

-- ---- all that `log_factors_by_rule` promises, of the match, the matrix, what was lent, its answer r and what is left
pub record Promises (rule : Rule) (matched : ℕ) (g : Input) (before : Slices) (r : Result Scaled ℕ) (after : Slices)
    : Type 0 where
  -- the answer and every slice left are the definition's
  pub outcome : outcome_is r after ≡ rule_outcome rule matched g before
  -- the number is that of the first fault, and an accepted call answers how many columns are unmatched
  pub answered : AnswersBy (rule_fault rule matched g before) (columns g - matched) r
  -- the number is one of the call's list
  pub number : OneOf rule_numbers (fault_of r)
  -- what both rules share holds of the factors of an accepted call
  pub shared : Shares (columns g) g.pairs r after.factors
