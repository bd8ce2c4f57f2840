-- `duals_hold`: the test of an entry's sum is that it is at most the cost.
use Rattle.std.specs.Float.Ieee.{le}
use Rattle.match_check.proofs.duals_hold.Given as goal

abbrev pub ghost-sums_hold : goal.ghost-sums_hold
ghost-sums_hold a = λ paired sum entry. le sum entry
