-- SPECIFICATION 5.17: Finite doubles in whole steps of 2 ^ -digits, rounded down and up. A number's place is a natural
-- number: zero is at `zero_step`, and a step is 1. Only `floor_in` and `ceiling_in` round.
use Rattle.std.specs.Prelude.{Bool, cond, ◌&&◌, ℕ, ◌+◌, ◌-◌, ◌*◌, ◌/◌, ◌^◌, leb, Float}
use Rattle.std.specs.Float.Ieee.Scale.{finite}
use Rattle.float64.specs.Number.{negative, magnitude}

-- SPECIFICATION 5.17: the most steps of a number, and the place of zero
abbrev pub zero_step : ℕ
zero_step = 2 ^ 49

-- a step of 2 ^ -digits in units of 2 ^ -1074, in which every double is whole
unfoldable pub step : ℕ → ℕ
step digits = 2 ^ (1074 - digits)

-- x is a finite double of at most 2 ^ 49 steps in size
unfoldable pub in_steps : ℕ → Float → Bool
in_steps s x = finite x && leb (magnitude x) (zero_step * s)

-- a, in units, in steps of s units: rounded down, and up
abbrev pub floor_in : ℕ → ℕ → ℕ
floor_in s a = a / s

abbrev pub ceiling_in : ℕ → ℕ → ℕ
ceiling_in s a = (a + (s - 1)) / s

-- the place of a number of this sign and size, rounded down
unfoldable pub place_below : ℕ → Bool → ℕ → ℕ
place_below s sign size = cond sign (zero_step - ceiling_in s size) (zero_step + floor_in s size)

-- and rounded up
unfoldable pub place_above : ℕ → Bool → ℕ → ℕ
place_above s sign size = cond sign (zero_step - floor_in s size) (zero_step + ceiling_in s size)

-- the places of a double
unfoldable pub lower : ℕ → Float → ℕ
unfolding place_below
lower s x = place_below s (negative x) (magnitude x)

unfoldable pub upper : ℕ → Float → ℕ
unfolding place_above
upper s x = place_above s (negative x) (magnitude x)
