-- Small columns, by computing: the largest log of two zeros is the first, and logs 1 and 3 cost 2 and 0.
use mathlib.Core.Path.{◌≡◌, refl}
use mathlib.Core.List.{[], ◌∷◌}
use lib.Ieee.{binary64, of_bits, add, sub, neg, lt}
use Rattle.float64.specs.Constants.{zero, one, two}
use Rattle.mc64_columns.specs.Columns.{largest, largest_from, normalised}

first_of_equals : largest (of_bits binary64 0x8000_0000_0000_0000 ∷ zero ∷ []) ≡ of_bits binary64 0x8000_0000_0000_0000
unfolding largest largest_from of_bits lt
first_of_equals = refl

costs : normalised (one ∷ of_bits binary64 0x4008_0000_0000_0000 ∷ []) ≡ two ∷ zero ∷ []
unfolding normalised largest largest_from of_bits lt add sub neg
costs = refl
