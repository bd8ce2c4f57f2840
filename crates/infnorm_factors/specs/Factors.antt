-- SPECIFICATION 8.2 and 8.3: The inf-norm factors. Iterated (`compute_infnorm`): each round divides a row's factor by
-- the root of the row's maximum, until all maxima are near 1. One-pass (`compute_onepass`): 1 over the root of the
-- maximum. Every operation is rounded, in the Rust's order.
use Rattle.std.specs.Prelude.{cond, ◌&&◌, List, [], ◌∷◌, map, ℕ, zero, suc, Float, get_or, replicate}
use Rattle.std.specs.Float.{nan, binary64}
use Rattle.std.specs.Float.Ieee.{lt, mul, div, sub}
use Rattle.std.specs.Float.Ieee.Scale.{finite}
use Rattle.float64.specs.Constants as Constants
use Rattle.float64.specs.Functions.{absolute, size_of}
use Rattle.square_root.specs.Root.{value_of, sqrt_of}
use Rattle.sparse.specs.Matrix.{Matrix}
use Rattle.infnorm_factors.specs.Maxima.{larger, row_maxima}

-- ---- the size of an entry
-- iterated: a value times its row's factor and its column's; a zero of either sign raises no maximum
unfoldable pub scaled_size : Float → Float → Float → Float
unfolding size_of
scaled_size di value dj = size_of (mul binary64 (mul binary64 di value) dj)

abbrev pub scaled_sizes : List ℕ → List Float → List Float → ℕ → ℕ → Float
scaled_sizes rows values d j k = scaled_size (get_or d (get_or rows k 0) nan) (get_or values k nan) (get_or d j nan)

-- one-pass: of the value alone
abbrev pub own_sizes : List Float → ℕ → ℕ → Float
own_sizes values j k = size_of (get_or values k nan)

-- ---- the factor of a row
-- the root as a double; a maximum above 0 always has one (`root_is`)
unfoldable pub root : Float → Float
unfolding sqrt_of
root x = value_of (sqrt_of x)

-- a new factor counts only if it is finite and positive
unfoldable pub guarded : Float → Float → Float
guarded new old = cond (finite new && lt Constants.zero new) new old

unfoldable pub kr_guarded_update : Float → Float → Float
unfolding guarded root
kr_guarded_update d m = guarded (div binary64 d (root m)) d

-- iterated: a row whose maximum is 0 keeps its factor
unfoldable pub new_factor : Float → Float → Float
unfolding kr_guarded_update
new_factor d m = cond (lt Constants.zero m) (kr_guarded_update d m) d

-- one-pass: such a row has the factor 1.0
unfoldable pub inv_sqrt_scale_guarded : Float → Float
unfolding guarded root
inv_sqrt_scale_guarded m =
    cond (lt Constants.zero m) (guarded (div binary64 Constants.one (root m)) Constants.one) Constants.one

-- ---- one round
-- how far a maximum is from 1
abbrev pub deviation : Float → Float
deviation m = absolute (sub binary64 m Constants.one)

-- the largest deviation with one more row; a row whose maximum is 0 has none
unfoldable pub deviating : Float → Float → Float
deviating largest m = cond (lt Constants.zero m) (larger largest (deviation m)) largest

unfoldable pub deviating_all : Float → List Float → Float
unfolding deviating
deviating_all largest [] = largest
deviating_all largest (m ∷ maxima) = deviating_all (deviating largest m) maxima

-- f of the first of each list, of the second, and so on
unfoldable pub zipped : (Float → Float → Float) → List Float → List Float → List Float
zipped f [] maxima = []
zipped f (d ∷ factors) [] = []
zipped f (d ∷ factors) (m ∷ maxima) = f d m ∷ zipped f factors maxima

-- what a round leaves, and its largest deviation
pub record Round : Type 0 where
  pub factors : List Float
  pub largest : Float

abbrev pub round_is : List Float → Float → Round
round_is factors largest = record { factors = factors; largest = largest }

abbrev pub round_with : List Float → List Float → Round
round_with d maxima = round_is (zipped new_factor d maxima) (deviating_all Constants.zero maxima)

abbrev pub round_from : Matrix → List Float → Round
round_from m d = round_with d (row_maxima (scaled_sizes m.pattern.row_idx m.values d) m)

-- ---- the factors of all rows
-- at most `count` rounds; the round whose largest deviation is below 1e-8 is the last
unfoldable pub rounds : ℕ → Matrix → List Float → List Float
unfolding row_maxima scaled_size new_factor zipped deviating_all
rounds zero m d = d
rounds (suc count) m d =
    cond (lt (round_from m d).largest Constants.infnorm_tol) (round_from m d).factors
    (rounds count m (round_from m d).factors)

unfoldable pub infnorm_factors : Matrix → List Float
unfolding rounds
infnorm_factors m = rounds 10 m (replicate m.pattern.n Constants.one)

unfoldable pub onepass_factors : Matrix → List Float
unfolding row_maxima inv_sqrt_scale_guarded
onepass_factors m = map inv_sqrt_scale_guarded (row_maxima (own_sizes m.values) m)
