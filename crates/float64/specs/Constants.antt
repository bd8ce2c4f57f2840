-- SPECIFICATION 3.1: Named doubles, each by its bits.
use Rattle.std.specs.Prelude.{Float}
use Rattle.std.specs.Float.{binary64}
use Rattle.std.specs.Float.Ieee.{of_bits}

abbrev pub zero : Float
zero = of_bits binary64 0

abbrev pub one : Float
one = of_bits binary64 0x3FF0_0000_0000_0000

abbrev pub two : Float
two = of_bits binary64 0x4000_0000_0000_0000

-- the Rust's f64::MAX / 2.0: a distance that no path has
abbrev pub rinf : Float
rinf = of_bits binary64 0x7FDF_FFFF_FFFF_FFFF

-- the Rust's LOG_HUGE, 709.0, and its negation: log factors are held between them
abbrev pub log_huge : Float
log_huge = of_bits binary64 0x4086_2800_0000_0000

abbrev pub minus_log_huge : Float
minus_log_huge = of_bits binary64 0xC086_2800_0000_0000

-- the Rust's INFNORM_TOL, 1e-8
abbrev pub infnorm_tol : Float
infnorm_tol = of_bits binary64 0x3E45_798E_E230_8C3A

abbrev pub minus_infinity : Float
minus_infinity = of_bits binary64 0xFFF0_0000_0000_0000

-- the stored NaN: positive and quiet, without a payload. The logic has only one NaN, so only the code, and a test from
-- Rust, fix its bits
abbrev pub quiet_nan : Float
quiet_nan = of_bits binary64 0x7FF8_0000_0000_0000
