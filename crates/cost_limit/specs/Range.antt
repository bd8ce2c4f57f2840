-- SPECIFICATION 3.2: The range of one cost and of one log in a graph of n columns, by the exact product: n · c below 2
-- ^ 48, n · |x| below 2 ^ 47. Nothing here rounds: `magnitude x` is the size of x in units of 2 ^ -1074, of which the
-- number 1 has `units_per_one`.
use Rattle.std.specs.Prelude.{Bool, not, ◌&&◌, ◌||◌, ℕ, ◌+◌, ◌*◌, ◌/◌, ◌^◌, ltb, eqb, Float}
use Rattle.std.specs.Float.Ieee.Scale.{finite}
use Rattle.float64.specs.Number.{negative, units_per_one, magnitude}

-- x is finite, and n times its size is below 2 ^ e
unfoldable pub times_below : ℕ → ℕ → Float → Bool
times_below e n x = finite x && ltb (n * magnitude x) (2 ^ e * units_per_one)

-- x is not below zero; -0.0 passes
unfoldable pub not_below : Float → Bool
not_below x = not (negative x) || eqb (magnitude x) 0

-- this cost is in range: 0 ≤ c and n · c < 2 ^ 48. A NaN is out of range
unfoldable pub in_range : ℕ → Float → Bool
unfolding times_below not_below
in_range n c = times_below 48 n c && not_below c

-- this log is in range: n · |x| < 2 ^ 47. A NaN is out of range
unfoldable pub in_log_range : ℕ → Float → Bool
unfolding times_below
in_log_range n x = times_below 47 n x

-- a whole number above every cost in range
unfoldable pub cost_limit : ℕ → ℕ
cost_limit n = 2 ^ 48 / n + 1
