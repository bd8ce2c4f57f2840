-- The loop of `logs_fault`: `fine` is the result of the search for a fault over the entries so far.
use Rattle.std.proofs.Common.{length}
use Rattle.refusal.specs.Refusal.{cost_range}
use Rattle.sparse.proofs.Alike.{Tested}
use Rattle.mc64_general.proofs.Fits.{fits, some}
use Rattle.mc64_general.proofs.logs_fault.Given as goal

abbrev pub invariant-loop-k : goal.invariant-loop-k
invariant-loop-k l = Tested (fits l.n l.values l.logs) cost_range (length l.values) some l.fine l.k
