-- What `exponent_of` promises the loops, and what these require of the factors.
use Rattle.std.specs.Prelude.{◌≡◌, true, List, ℕ, ◌<◌, ℤ, Float, length, get_or}
use Rattle.std.specs.Float.{nan}
use Rattle.exponents_powers.specs.Power.{within_limit}
use Rattle.exponents.specs.Exponent.{exponent_of, factor_fits}

-- r is the exponent of the factor x, or beyond the limit if it has none
pub record Exponent (x : Float) (r : ℤ) : Type 0 where
  pub fits : within_limit r ≡ factor_fits x
  pub is : factor_fits x ≡ true → r ≡ exponent_of x

-- what a call gives at each place of the list is the list's
pub record Gives (post : ℕ → Float → Type 0) (l : List Float) : Type 0 where
  pub at : (i : ℕ) → i < length l → (x : Float) → post i x → x ≡ get_or l i nan
