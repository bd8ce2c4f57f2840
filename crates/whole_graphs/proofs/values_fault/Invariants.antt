-- The loop of `values_fault`: `fine` is the result of the search for a fault over the values so far.
use Rattle.std.proofs.Common.{length}
use Rattle.refusal.specs.Refusal.{value_not_finite}
use Rattle.sparse.proofs.Alike.{Tested}
use Rattle.whole_graphs.proofs.Finite.{fine, some}
use Rattle.whole_graphs.proofs.values_fault.Given as goal

abbrev pub invariant-loop-value : goal.invariant-loop-value
invariant-loop-value l = Tested (fine l.values) value_not_finite (length l.values) some l.fine l.value-index
