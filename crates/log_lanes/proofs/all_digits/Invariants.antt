-- The digits that are left in a lane make its whole logarithm.
use Rattle.std.proofs.Common.{◌-◌, get_or}
use Rattle.whole_log.specs.inner.Steps.{Running}
use Rattle.log_lanes.specs.inner.Lanes.{Every}
use Rattle.log_lanes.proofs.all_digits.Given as goal

abbrev pub invariant-loop : goal.invariant-loop
invariant-loop l =
    Every (λ j m e. Running 2099 (get_or l.initial.leading j 0) (get_or l.initial.known j 0) (16 - l.counter) m e) l.leading l.known
