-- One round from row to row: the factors so far.
use Rattle.std.specs.Prelude.{List, ℕ, Float}
use Rattle.infnorm_factors.specs.Factors.{new_factor, zipped}
use Rattle.slices.specs.inner.Steps.{Front}

-- from row `from` on the factors have come to row `to`, whatever they were
pub record Updated (work factors : List Float) (from : ℕ) (factors' : List Float) (to : ℕ) : Type 0 where
  pub come : (before : List Float) → Front (zipped new_factor before work) before factors from
      → Front (zipped new_factor before work) before factors' to
