-- Logarithms of a few doubles, by computing: 1, 2, 0.5, 3, -10, 14917, the smallest double above zero and the largest, and the refused ones.
use mathlib.Core.Path.{◌≡◌, refl}
use mathlib.Core.Bool.{true, false}
use lib.IntN.{pos, negsuc}
use Rattle.std.specs.Prelude.{Ok, Err}
use lib.Ieee.{nan, inf, fin, binary64, of_bits}
use Rattle.float64.specs.Number.{magnitude, units_per_one}
use Rattle.whole_log.specs.Log.{whole_log}

pub log_of_one : whole_log (fin false 1 (pos 0)) ≡ Ok (pos 0)
unfolding whole_log magnitude units_per_one
log_of_one = refl

pub log_of_two : whole_log (fin false 1 (pos 1)) ≡ Ok (pos 65536)
unfolding whole_log magnitude units_per_one
log_of_two = refl

-- negsuc n is -(n + 1)
pub log_of_half : whole_log (fin false 1 (negsuc 0)) ≡ Ok (negsuc 65535)
unfolding whole_log magnitude units_per_one
log_of_half = refl

pub log_of_three : whole_log (fin false 3 (pos 0)) ≡ Ok (pos 103872)
unfolding whole_log magnitude units_per_one
log_of_three = refl

pub log_of_minus_ten : whole_log (fin true 5 (pos 1)) ≡ Ok (pos 217705)
unfolding whole_log magnitude units_per_one
log_of_minus_ten = refl

-- here the exact logarithm, rounded down, is 908,635
pub log_of_14917 : whole_log (fin false 14917 (pos 0)) ≡ Ok (pos 908634)
unfolding whole_log magnitude units_per_one
log_of_14917 = refl

pub log_of_the_smallest : whole_log (fin false 1 (negsuc 1073)) ≡ Ok (negsuc 70385663)
unfolding whole_log magnitude units_per_one
log_of_the_smallest = refl

pub log_of_the_largest : whole_log (of_bits binary64 0x7FEF_FFFF_FFFF_FFFF) ≡ Ok (pos 67108863)
unfolding whole_log magnitude units_per_one of_bits
log_of_the_largest = refl

pub refused_samples : (whole_log nan ≡ Err 9) × (whole_log (inf true) ≡ Err 9) × (whole_log (fin true 0 (pos 0)) ≡ Err 9)
unfolding whole_log
refused_samples = (refl, refl, refl)
