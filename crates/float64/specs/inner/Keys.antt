-- The place of a double on a line of natural numbers: the order of doubles is that of their keys.
use Rattle.std.specs.Prelude.{Bool, true, false, not, ℕ, ◌+◌, ◌-◌, T, Float}
use Rattle.std.specs.Float.{binary64}
use Rattle.std.specs.Float.Ieee.{fits, is_nan}
use Rattle.float64.specs.Number.{magnitude, origin, negative}

-- x is a double other than NaN, so that it compares
pub record Ordered (x : Float) : Type 0 where
  pub double : T (fits binary64 x)
  pub not_nan : T (not (is_nan x))

-- The place of a signed size on one line of natural numbers: zero of either sign is at `origin`, and a unit is 1.
unfoldable pub place : Bool → ℕ → ℕ
place true n = origin - n
place false n = origin + n

-- The order of doubles is the order of their keys, and an exact sum has position r + origin = position x + position y.
unfoldable pub position : Float → ℕ
unfolding place magnitude
position x = place (negative x) (magnitude x)
