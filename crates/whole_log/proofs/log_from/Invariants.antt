-- The digits that are left make the whole logarithm.
use Rattle.std.proofs.Common.{◌-◌}
use Rattle.whole_log.specs.inner.Steps.{Running}
use Rattle.whole_log.proofs.log_from.Given as goal

abbrev pub invariant-loop : goal.invariant-loop
invariant-loop l = Running 2098 l.leading l.known (16 - l.counter) l.m l.e
