-- Sample 10 of SPECIFICATION 13, by computing: the root of 2, and of 2 ^ -1074, the smallest double above zero.
use mathlib.Core.Path.{◌≡◌, refl}
use mathlib.Core.Bool.{false}
use lib.IntN.{pos, negsuc}
use Rattle.std.specs.Prelude.{Ok}
use lib.Ieee.{fin, binary64, of_bits}
use Rattle.square_root.specs.Root.{sqrt_of}

pub root_of_two : sqrt_of (fin false 1 (pos 1)) ≡ Ok (of_bits binary64 0x3FF6A09E667F3BCD)
unfolding sqrt_of of_bits
root_of_two = refl

-- negsuc n is -(n + 1)
pub root_of_the_smallest : sqrt_of (fin false 1 (negsuc 1073)) ≡ Ok (fin false 1 (negsuc 536))
unfolding sqrt_of
root_of_the_smallest = refl
