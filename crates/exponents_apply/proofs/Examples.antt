-- The order matters for acceptance: by computing, of the matrix with the one value 2 ^ 1023.
use mathlib.Core.Path.{◌≡◌, refl}
use mathlib.Core.List.{List, [], ◌∷◌}
use Prim.Native.Nat.{ℕ}
use lib.IntN.{pos, negsuc}
use Rattle.slices.specs.Lists.{tabulate}
use Rattle.slices.specs.Outcome.{outcome_is}
use Rattle.sparse.specs.Fault.{first_of}
use Rattle.sparse.specs.Validate.{size_fault, pointer_fault, general_columns, general_column, pattern_fault}
use Rattle.matching.specs.Sum.{sum_to}
use Rattle.sparse.specs.Pattern.{Pattern, pattern, column_of}
use Rattle.exponents_powers.specs.Power.{within_limit, scalable, scaled_bits, Exponents, exponents}
use Rattle.exponents_apply.specs.Apply

abbrev one_entry : Pattern
one_entry = pattern 1 (0 ∷ 1 ∷ []) (0 ∷ [])

abbrev halving : Exponents
halving = exponents (negsuc 0 ∷ []) (pos 0 ∷ [])

abbrev doubling : Exponents
doubling = exponents (pos 1 ∷ []) (pos 0 ∷ [])

abbrev largest_power : List ℕ
largest_power = 0x7FE0_0000_0000_0000 ∷ []

-- halved and then doubled it is what it was; doubled first it leaves the range of normal numbers
pub one_order_refused : (Apply.apply_exponents one_entry halving largest_power ≡ outcome_is 0 (0x7FD0_0000_0000_0000 ∷ []))
    × (Apply.apply_exponents one_entry doubling (0x7FD0_0000_0000_0000 ∷ []) ≡ outcome_is 0 largest_power)
    × (Apply.apply_exponents one_entry doubling largest_power ≡ outcome_is 46 largest_power)
unfolding Apply.apply_exponents Apply.apply_fault pattern_fault Apply.limit_fault Apply.values_fault Apply.column_fault Apply.scaled_values size_fault
    pointer_fault general_columns general_column first_of tabulate column_of sum_to within_limit scalable scaled_bits
one_order_refused = (refl, refl, refl)
