-- `claim_fault`: the test of an entry's sum is that the entry is no pair, or it is at least the cost.
use Rattle.std.proofs.Common.{not, ◌||◌}
use Rattle.std.specs.Float.Ieee.{le}
use Rattle.match_check.proofs.claim_fault.Given as goal

abbrev pub ghost-sums_hold : goal.ghost-sums_hold
ghost-sums_hold a = λ paired sum entry. not paired || le entry sum
