-- SPECIFICATION 3.1: The exact number that a finite double stands for, and the scale of units 2 ^ -1074 on which every
-- double has a place. `num x / den x` is the size of a finite x as a fraction, and `finite` says that x is neither a
-- NaN nor an infinity (lib.Ieee.Positive, lib.Ieee.Scale).
use Rattle.std.specs.Prelude.{◌≡◌, Bool, true, false, ℕ, ◌*◌, ◌/◌, ◌^◌, T, ℤ, pos, neg_ℤ, ◌*ℤ◌}
use lib.Ieee.{Float, nan, inf, fin, binary64, fits, up, down}
use Rattle.std.specs.Float.Ieee.Scale.{finite}
use Rattle.std.specs.Float.Ieee.Positive.{num, den}

-- whether the sign is set, also for -0.0; a NaN has none
abbrev pub negative : Float → Bool
negative nan = false
negative (inf s) = s
negative (fin s m e) = s

-- n, or -n if the sign is set
abbrev pub signed : Bool → ℕ → ℤ
signed true n = neg_ℤ (pos n)
signed false n = pos n

-- x is a finite double, and so stands for the number signed (negative x) (num x) / den x
pub record Number (x : Float) : Type 0 where
  pub double : T (fits binary64 x)
  pub is_finite : T (finite x)

-- the finite double x stands for the whole number z; -0.0 stands for 0
pub record Whole (x : Float) (z : ℤ) : Type 0 where
  pub double : T (fits binary64 x)
  pub is_finite : T (finite x)
  pub value : signed (negative x) (num x) ≡ z *ℤ pos (den x)

-- the number that a whole double stands for
unfoldable pub whole_of : Float → ℤ
whole_of x = signed (negative x) (num x / den x)

-- ---- units: 2 ^ -1074, the smallest positive double. Every finite double is a whole number of units.

-- the number 1 in units
unfoldable pub units_per_one : ℕ
units_per_one = 2 ^ 1074

-- the first size in units that no finite double has: 2 ^ 1024
unfoldable pub origin : ℕ
origin = 2 ^ 2098

-- the size of x in units; an infinity counts as the first size out of range
unfoldable pub magnitude : Float → ℕ
magnitude nan = 0
magnitude (inf s) = origin
magnitude (fin s m e) = m * up e * units_per_one / down e

-- x stands for some whole number
abbrev pub IsWhole : Float → Type 0
IsWhole x = (z : ℤ) × Whole x z
