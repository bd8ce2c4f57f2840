-- How large the doubles of a search are: duals, costs and distances, by the number of popped rows.
use Rattle.std.specs.Prelude.{◌≡◌, true, ℕ, ◌+◌, ◌*◌, ◌≤◌, Float}
use Rattle.std.specs.Float.Ieee.{lt}
use Rattle.float64.specs.Number.{units_per_one, origin}
use Rattle.float64.specs.inner.Keys.{position}
use Rattle.float64.specs.inner.Arithmetic.{Apart}
use Rattle.float64.specs.Constants.{rinf}

-- p times the cost limit, and a little more
unfoldable pub level : ℕ → ℕ → ℕ
level C p = p * ((C + 4) * units_per_one)

-- x is good and at most b units in size
pub record Small (Good : Float → Type 0) (b : ℕ) (x : Float) : Type 0 where
  pub good : Good x
  pub size : Apart b (position x) origin

-- the size of a row's dual
unfoldable pub dual_bound : ℕ → ℕ → ℕ
dual_bound n C = 2 * level C (n + 2) + 8 * units_per_one

-- a cost
pub record Cost (Good : Float → Type 0) (C : ℕ) (c : Float) : Type 0 where
  pub good : Good c
  pub low : origin ≤ position c
  pub high : position c ≤ origin + C * units_per_one

-- a distance d = t - u
pub record Distance (Good : Float → Type 0) (err : ℕ) (t u d : Float) : Type 0 where
  pub good : Good d
  pub near : Apart err (2 * (position d + position u)) (2 * (position t + origin))
  pub finite : lt d rinf ≡ true
