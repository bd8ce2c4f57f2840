-- What a call over the C interface answers where what it makes has a count: 0, or the number of the refusal. By the
-- outcome of the call behind it, in whose slices the count stands too.
use Rattle.std.specs.Prelude.{◌≡◌, List, ℕ, Result}
use Rattle.refusal.specs.Listed.{OneOf}
use Rattle.refusal.specs.Number.{fault_of}
use Rattle.slices.specs.Outcome.{Outcome}

-- the number and the slices are those of the outcome
abbrev pub Numbered : {S : Type 0} → ℕ → S → Outcome (Result ℕ ℕ) S → Type 0
Numbered number after o = (number ≡ fault_of o.answer) × (after ≡ o.after)

-- all that such a call promises, by its list of numbers and by what the call behind it does: `suontarvi_triplets_..`,
-- `suontarvi_symmetric_graph` and `suontarvi_general_graph`
pub record Promises {S : Type 0} (numbers : List ℕ) (does : Outcome (Result ℕ ℕ) S) (r : ℕ) (after : S) : Type 0 where
  -- the number and every slice left are those of the call behind
  pub outcome : Numbered r after does
  -- the number is one of the call's list
  pub number : OneOf numbers r
