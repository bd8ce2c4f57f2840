-- A maximum above 0 has a root: the square root refuses only what is not above 0. By cases on the double.
use Rattle.std.proofs.Common.{Ok}
use mathlib.Core.Path.{◌≡◌, refl}
use mathlib.Core.Bool.{true, false, false≢true}
use Prim.Native.Nat.{zero, suc}
use lib.Ieee.{Float, nan, inf, fin, lt, of_bits}
use Rattle.float64.specs.Constants as Constants
use Rattle.square_root.specs.Root.{sqrt_of}
use Rattle.infnorm_factors.specs.Factors.{root}

pub root_is : (m : Float) → lt Constants.zero m ≡ true → sqrt_of m ≡ Ok (root m)
unfolding root sqrt_of lt of_bits
root_is nan h = absurd (false≢true h)
root_is (inf true) h = absurd (false≢true h)
root_is (inf false) h = refl
root_is (fin s zero e) h = refl
root_is (fin true (suc m) e) h = absurd (false≢true h)
root_is (fin false (suc m) e) h = refl
