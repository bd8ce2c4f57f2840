-- `graph_test::cost_fault`: what the test is worth after the costs before the index.
use Rattle.hungarian_match.proofs.Tests.{Tested}
use Rattle.hungarian_match.proofs.graph_test.cost_fault.Given as goal

abbrev pub invariant-loop-x : goal.invariant-loop-x
invariant-loop-x l = Tested l.n l.cost l.fine l.x-index
