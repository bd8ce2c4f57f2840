-- The lanes below i have one digit more, the others what they had.
use Rattle.log_lanes.specs.inner.Lanes.{Every}
use Rattle.log_lanes.proofs.Lanes.{Stage}
use Rattle.log_lanes.proofs.next_digits.Given as goal

abbrev pub invariant-loop-i : goal.invariant-loop-i
invariant-loop-i l = Every (Stage l.initial.leading l.initial.known l.i) l.leading l.known
