-- What a limit is: a double against which one cost, or the size of one log, is compared. It is made once a call.
use Rattle.std.specs.Prelude.{◌≡◌, ◌&&◌, ℕ, T, Float}
use Rattle.std.specs.Float.{binary64}
use Rattle.std.specs.Float.Ieee.{fits, le, lt}
use Rattle.float64.specs.Constants.{zero}
use Rattle.float64.specs.Functions.{size_of}
use Rattle.cost_limit.specs.Range.{in_range, in_log_range}

-- for every double the two comparisons are the test of a cost
pub record CostLimit (n : ℕ) (limit : Float) : Type 0 where
  pub exact : (c : Float) → T (fits binary64 c) → (le zero c && lt c limit) ≡ in_range n c

-- for every double the comparison of its size is the test of a log
pub record LogLimit (n : ℕ) (limit : Float) : Type 0 where
  pub exact : (x : Float) → T (fits binary64 x) → lt (size_of x) limit ≡ in_log_range n x
