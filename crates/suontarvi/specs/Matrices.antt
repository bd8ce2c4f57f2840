-- SPECIFICATION 4.2 and 4.3: What the tests of a matrix answer over the C interface.
use Rattle.std.specs.Prelude.{◌≡◌, List, ℕ}
use Rattle.refusal.specs.Listed.{OneOf}

-- `suontarvi_validate_symmetric` and `suontarvi_validate_general`, by the matrix's fault
pub record ValidatePromises (numbers : List ℕ) (fault r : ℕ) : Type 0 where
  -- the answer is the number of the first thing wrong, or 0
  pub answer : r ≡ fault
  -- the number is one of the call's list
  pub number : OneOf numbers r
