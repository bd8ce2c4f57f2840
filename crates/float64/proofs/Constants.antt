-- The constants as numbers: 0.0 is whole, and every finite double up to 2 ^ 53 is below RINF. By computing.
use mathlib.Core.Path.{◌≡◌, refl, ◌∙◌}
use mathlib.Core.Bool.{true}
use Prim.Native.Nat.{◌+◌, ◌*◌, ◌≤◌, ◌<◌}
use native.Mathlib.Nat.{lt_of_le_of_lt}
use borrow.Author.Tests.{lt-ltb}
use lib.Dec.{lit<}
use lib.IntN.{pos}
use lib.Ieee.{Float, lt, of_bits, fits}
use Rattle.float64.specs.Number.{Number, Whole, units_per_one, origin, magnitude}
use Rattle.float64.specs.inner.Keys.{place, position}
use Rattle.float64.specs.Constants as Constants
use Rattle.float64.specs.inner.Arithmetic.{whole_limit}
use Rattle.float64.proofs.Order.{lt_key}
use Rattle.float64.proofs.WholeNumbers.{ordered}

pub zero_whole : Whole Constants.zero (pos 0)
unfolding of_bits fits
zero_whole = record { double = tt; is_finite = tt; value = refl }

pub rinf_number : Number Constants.rinf
unfolding of_bits fits
rinf_number = record { double = tt; is_finite = tt }

rinf_key : origin + whole_limit * units_per_one < position Constants.rinf
unfolding of_bits position magnitude place units_per_one origin
rinf_key = lit< tt

pub below_rinf : (x : Float) → Number x → position x ≤ origin + whole_limit * units_per_one → lt x Constants.rinf ≡ true
below_rinf x n h = lt_key x Constants.rinf (ordered x n) (ordered Constants.rinf rinf_number) ∙ lt-ltb (position x) (position Constants.rinf)
    (lt_of_le_of_lt h rinf_key)
