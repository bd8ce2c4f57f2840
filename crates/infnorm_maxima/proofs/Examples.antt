-- The definitions on small matrices, by computation: sample 11 of SPECIFICATION 13, a NaN beside numbers, a row of zeros, a mirrored entry, an infinity.
use mathlib.Core.Path.{◌≡◌, refl}
use mathlib.Core.Bool.{false}
use mathlib.Core.List.{List, [], ◌∷◌}
use lib.Ieee.{Float, nan, inf, binary64, of_bits, sub, add, neg, mul, div, sum, round, units, odd, climb, size, span, lt}
use Rattle.float64.specs.Constants as Constants
use Rattle.float64.specs.Number.{magnitude, units_per_one}
use Rattle.float64.specs.Functions.{absolute, size_of}
use Rattle.square_root.specs.Root.{sqrt_of, root_of, square, whole_root}
use Rattle.sparse.specs.Matrix.{Matrix, matrix}
use Rattle.infnorm_factors.specs.Maxima.{raise, enter_column, enter_columns, row_maxima}
use Rattle.infnorm_factors.specs.Factors

abbrev quarter : Float
quarter = of_bits binary64 0x3FD0_0000_0000_0000

abbrev half : Float
half = of_bits binary64 0x3FE0_0000_0000_0000

abbrev four : Float
four = of_bits binary64 0x4010_0000_0000_0000

abbrev sixteen : Float
sixteen = of_bits binary64 0x4030_0000_0000_0000

-- both kinds give these factors
abbrev Gives : Matrix → List Float → Type 0
Gives m factors = (Factors.onepass_factors m ≡ factors) × (Factors.infnorm_factors m ≡ factors)

small : Gives (matrix 0 (0 ∷ []) [] []) []
    × Gives (matrix 1 (0 ∷ 1 ∷ []) (0 ∷ []) (four ∷ [])) (half ∷ [])
    × Gives (matrix 1 (0 ∷ 1 ∷ []) (0 ∷ []) (inf false ∷ [])) (Constants.one ∷ [])
    × Gives (matrix 2 (0 ∷ 2 ∷ 3 ∷ []) (0 ∷ 1 ∷ 1 ∷ []) (four ∷ nan ∷ sixteen ∷ [])) (half ∷ quarter ∷ [])
    × Gives (matrix 2 (0 ∷ 1 ∷ 2 ∷ []) (0 ∷ 1 ∷ []) (four ∷ Constants.zero ∷ [])) (half ∷ Constants.one ∷ [])
    × Gives (matrix 2 (0 ∷ 1 ∷ 1 ∷ []) (1 ∷ []) (neg four ∷ [])) (half ∷ half ∷ [])
unfolding Factors.onepass_factors Factors.infnorm_factors Factors.rounds size_of Factors.scaled_size Factors.new_factor Factors.kr_guarded_update
    Factors.inv_sqrt_scale_guarded
    Factors.deviating Factors.deviating_all Factors.zipped Factors.root Factors.guarded row_maxima enter_columns enter_column raise absolute sqrt_of root_of square
    whole_root magnitude units_per_one size units mul div sub add neg sum round odd climb span of_bits lt
small = ((refl, refl), (refl, refl), (refl, refl), (refl, refl), (refl, refl), (refl, refl))
