-- SPECIFICATION 10.2: What identity factors answer and leave: the first thing wrong, with nothing changed, or 0 with
-- factors of 1.0.
use Rattle.std.specs.Prelude.{List, ℕ, Float, replicate}
use Rattle.refusal.specs.Refusal.{accepted}
use Rattle.slices.specs.Outcome.{Outcome, outcome_is, as_number, refusing}
use Rattle.float64.specs.Constants as Constants
use Rattle.sparse.specs.Matrix.{Matrix}
use Rattle.infnorm.specs.Call.{lengths_fit, input_fault}

-- what `identity_factors` does: the number answered, and the factors left
unfoldable pub identity_factors : Matrix → List Float → Outcome ℕ (List Float)
identity_factors m factors =
    refusing as_number (input_fault m (lengths_fit m factors))
    (outcome_is accepted (replicate m.pattern.n Constants.one)) factors
