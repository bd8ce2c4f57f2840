-- What sums and differences of doubles promise, as one record of laws with two instances: whole numbers, whose sums are
-- exact, and all finite doubles, whose sums are near. An argument that holds for both is written once, over the record.
-- Sizes are in units of 2 ^ -1074, places are keys (Number.antt).
use Rattle.std.specs.Prelude.{ℕ, ◌+◌, ◌*◌, ◌^◌, ◌≤◌, Float}
use Rattle.std.specs.Float.{binary64}
use Rattle.std.specs.Float.Ieee.{add, sub}
use Rattle.float64.specs.Number.{Number, units_per_one, origin, IsWhole}
use Rattle.float64.specs.inner.Keys.{position}

-- a and b are at most l apart
pub record Apart (l a b : ℕ) : Type 0 where
  pub above : a ≤ b + l
  pub under : b ≤ a + l

-- Good doubles are finite. A sum or a difference of two whose exact result is at most `limit` in size is good too, and
-- twice its error is at most `error`. `position x + position y` is the exact sum's place plus origin, and `position x +
-- origin` the exact difference's place plus position y.
pub record Arithmetic (Good : Float → Type 0) (limit error : ℕ) : Type 0 where
  pub number : (x : Float) → Good x → Number x
  pub plus : (x y : Float) → Good x → Good y → Apart limit (position x + position y) (origin + origin)
      → Good (add binary64 x y)
  pub plus_near : (x y : Float) → Good x → Good y → Apart limit (position x + position y) (origin + origin)
      → Apart error (2 * (position (add binary64 x y) + origin)) (2 * (position x + position y))
  pub minus : (x y : Float) → Good x → Good y → Apart limit (position x) (position y) → Good (sub binary64 x y)
  pub minus_near : (x y : Float) → Good x → Good y → Apart limit (position x) (position y)
      → Apart error (2 * (position (sub binary64 x y) + position y)) (2 * (position x + origin))

-- up to this whole number every one is a double, so sums of whole numbers are exact
abbrev pub whole_limit : ℕ
whole_limit = 2 ^ 53

-- whole numbers: no error up to 2 ^ 53
abbrev pub WholeArithmetic : Type 0
WholeArithmetic = Arithmetic IsWhole (whole_limit * units_per_one) 0

-- finite doubles: results up to 2 ^ (53 + g) units, and twice the error is at most 2 ^ g units; at g = 1074 results up
-- to 2 ^ 53 are off by at most a half
abbrev pub NearArithmetic : ℕ → Type 0
NearArithmetic g = Arithmetic Number (2 ^ (53 + g)) (2 ^ g)
