-- What `bound` promises of the double that it makes.
use Rattle.std.specs.Prelude.{◌≡◌, false, ℕ, ◌*◌, ◌^◌, ltb, Float}
use Rattle.float64.specs.Number.{Number, negative, units_per_one, magnitude}
use Rattle.float64.specs.inner.Keys.{Ordered}

-- a size is below the limit exactly if its product with n is below 2 ^ e
pub record Bound (e n : ℕ) (limit : Float) : Type 0 where
  pub ordered : Ordered limit
  pub sign : negative limit ≡ false
  pub same : (x : Float) → Number x
      → ltb (magnitude x) (magnitude limit) ≡ ltb (n * magnitude x) (2 ^ e * units_per_one)
