-- Costs and logs on both sides of a limit, by computing: at n = 3, where the limit is no double, at n = 1 and at n = 4,096.
use mathlib.Core.Path.{◌≡◌, refl}
use mathlib.Core.Bool.{true, false}
use lib.Ieee.{nan, inf, binary64, of_bits}
use Rattle.float64.specs.Number.{units_per_one, magnitude}
use Rattle.cost_limit.specs.Range.{in_range, in_log_range}

-- 2 ^ 48 / 3 is between these two doubles
three_below : in_range 3 (of_bits binary64 0x42d5_5555_5555_5555) ≡ true
unfolding in_range of_bits magnitude units_per_one
three_below = refl

three_above : in_range 3 (of_bits binary64 0x42d5_5555_5555_5556) ≡ false
unfolding in_range of_bits magnitude units_per_one
three_above = refl

three_log_below : in_log_range 3 (of_bits binary64 0xc2c5_5555_5555_5555) ≡ true
unfolding in_log_range of_bits magnitude units_per_one
three_log_below = refl

three_log_above : in_log_range 3 (of_bits binary64 0xc2c5_5555_5555_5556) ≡ false
unfolding in_log_range of_bits magnitude units_per_one
three_log_above = refl

-- 2 ^ 48 - 1 and 2 ^ 48
one_below : in_range 1 (of_bits binary64 0x42ef_ffff_ffff_ffe0) ≡ true
unfolding in_range of_bits magnitude units_per_one
one_below = refl

one_at : in_range 1 (of_bits binary64 0x42f0_0000_0000_0000) ≡ false
unfolding in_range of_bits magnitude units_per_one
one_at = refl

-- 2 ^ 36 - 1 and 2 ^ 36
largest_below : in_range 4096 (of_bits binary64 0x422f_ffff_fffe_0000) ≡ true
unfolding in_range of_bits magnitude units_per_one
largest_below = refl

largest_at : in_range 4096 (of_bits binary64 0x4230_0000_0000_0000) ≡ false
unfolding in_range of_bits magnitude units_per_one
largest_at = refl

-- -0.0 is in range, and nothing else that is negative; neither is what is not finite
minus_zero_lem : in_range 4096 (of_bits binary64 0x8000_0000_0000_0000) ≡ true
unfolding in_range of_bits magnitude units_per_one
minus_zero_lem = refl

minus_smallest : in_range 4096 (of_bits binary64 0x8000_0000_0000_0001) ≡ false
unfolding in_range of_bits magnitude units_per_one
minus_smallest = refl

minus_zero_log : in_log_range 4096 (of_bits binary64 0x8000_0000_0000_0000) ≡ true
unfolding in_log_range of_bits magnitude units_per_one
minus_zero_log = refl

not_a_number : in_range 1 nan ≡ false
unfolding in_range
not_a_number = refl

infinity : in_range 1 (inf false) ≡ false
unfolding in_range
infinity = refl

not_a_number_log : in_log_range 1 nan ≡ false
unfolding in_log_range
not_a_number_log = refl

infinity_log : in_log_range 1 (inf true) ≡ false
unfolding in_log_range
infinity_log = refl
