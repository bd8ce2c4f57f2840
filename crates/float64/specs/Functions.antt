-- SPECIFICATION 3.1: What the small functions of src/lib.rt give; of `is_finite` it is `finite` of lib.Ieee.Scale.
use Rattle.std.specs.Prelude.{false, cond}
use lib.Ieee.{Float, nan, inf, fin, lt, neg}
use Rattle.float64.specs.Constants.{zero, log_huge, minus_log_huge}

-- x with its sign cleared
unfoldable pub absolute : Float → Float
absolute nan = nan
absolute (inf s) = inf false
absolute (fin s m e) = fin false m e

-- x or -x, whichever is not below 0.0; a zero keeps its sign
unfoldable pub size_of : Float → Float
size_of x = cond (lt x zero) (neg x) x

-- x held to -709..709; a NaN stays
unfoldable pub clamp_log : Float → Float
clamp_log x = cond (lt x minus_log_huge) minus_log_huge (cond (lt log_huge x) log_huge x)
