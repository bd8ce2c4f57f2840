-- SPECIFICATION 7.3: The exponent of a factor: the whole number that it stands for, divided by 65,536 and rounded down.
use Rattle.std.specs.Prelude.{Bool, ◌&&◌, ◌/◌, ◌%◌, eqb, ℤ, pos, negsuc, Float}
use Rattle.std.specs.Float.Ieee.Scale.{finite}
use Rattle.std.specs.Float.Ieee.Positive.{num, den}
use Rattle.float64.specs.Number.{whole_of}
use Rattle.exponents_powers.specs.Power.{within_limit}

-- z / 65,536, rounded down: -1 gives -1. negsuc n stands for -(n + 1)
unfoldable pub floor_of : ℤ → ℤ
floor_of (pos n) = pos (n / 65536)
floor_of (negsuc n) = negsuc (n / 65536)

-- x is finite and has no fraction
unfoldable pub is_whole : Float → Bool
is_whole x = finite x && eqb (num x % den x) 0

unfoldable pub exponent_of : Float → ℤ
exponent_of x = floor_of (whole_of x)

-- the factor is whole, and its exponent within the limit
unfoldable pub factor_fits : Float → Bool
factor_fits x = is_whole x && within_limit (exponent_of x)
