-- The lanes of the values so far start with their digits.
use Rattle.log_lanes.specs.inner.Lanes.{Every, Loaded}
use Rattle.log_lanes.proofs.load.Given as goal

abbrev pub invariant-loop-i : goal.invariant-loop-i
invariant-loop-i l = Every (Loaded l.values l.i) l.leading l.known
