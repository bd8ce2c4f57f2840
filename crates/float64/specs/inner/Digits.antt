-- The digits of a double above zero.
use Rattle.std.specs.Prelude.{◌≡◌, ℕ, ◌*◌, ◌^◌, ◌≤◌, ◌<◌}

-- A is m * 2 ^ h, with an m of 53 digits; h is in the range of a double's size in units, times `one`
pub record Scaling (A m h : ℕ) : Type 0 where
  pub same : A ≡ m * 2 ^ h
  pub full : 2 ^ 52 ≤ m
  pub short : m < 2 ^ 53
  pub least : 1022 ≤ h
  pub most : h < 3120
