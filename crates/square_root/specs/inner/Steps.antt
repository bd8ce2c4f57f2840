-- What the inner functions promise each other: the whole root of a number.
use Rattle.std.specs.Prelude.{ℕ, ◌+◌, ◌*◌, ◌≤◌, ◌<◌}

-- q is the largest number whose square is at most n
pub record WholeRoot (n q : ℕ) : Type 0 where
  pub at_most : q * q ≤ n
  pub less : n < (q + 1) * (q + 1)
