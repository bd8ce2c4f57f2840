-- The loop of `mark_rows`: the rows among the entries of perm before the index are marked.
use Rattle.factors_mc64.specs.inner.Steps.{Marked}
use Rattle.factors_mc64.proofs.mark_rows.Given as goal

abbrev pub invariant-loop-row : goal.invariant-loop-row
invariant-loop-row l = Marked l.n l.perm l.row-index l.work
