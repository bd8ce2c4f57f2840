-- SPECIFICATION 6.3: A column of logs becomes one of costs: the largest log minus each.
use Rattle.std.specs.Prelude.{cond, List, [], ◌∷◌, map, Float}
use Rattle.std.specs.Float.{binary64}
use Rattle.std.specs.Float.Ieee.{lt, sub}
use Rattle.float64.specs.Constants.{minus_infinity}
use Rattle.whole_log.specs.Log.{whole_log, double_of}

-- the logs of values: each value's whole-number logarithm as a double, NaN if it has none
abbrev pub value_logs : List Float → List Float
value_logs values = map (λ x. double_of (whole_log x)) values

-- the largest of a log and those after it: a later one counts only if it is strictly larger
unfoldable pub largest_from : Float → List Float → Float
largest_from top [] = top
largest_from top (c ∷ l) = largest_from (cond (lt top c) c top) l

-- the largest log of a column, the first of equals; minus infinity for an empty one
unfoldable pub largest : List Float → Float
unfolding largest_from
largest [] = minus_infinity
largest (c ∷ l) = largest_from c l

-- each log subtracted from a top
abbrev pub below : Float → List Float → List Float
below top l = map (sub binary64 top) l

-- the costs of a column
unfoldable pub normalised : List Float → List Float
unfolding largest
normalised l = below (largest l) l
