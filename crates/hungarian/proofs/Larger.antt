-- The larger of two sizes is std's `max`, by the two orders.
use Rattle.std.proofs.Common.{◌≡◌, ℕ, max, arith}
use Rattle.std.proofs.lemmas.Bool.Decides.{nat_tests}
use Rattle.hungarian.specs.Counts.{larger}

pub larger_max : (a b : ℕ) → larger a b ≡ max a b
unfolding larger
larger_max a b = grind (arith, nat_tests)
