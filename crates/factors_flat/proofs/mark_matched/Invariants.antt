-- The loop of `mark_matched`: the indices below i are marked.
use Rattle.factors_flat.specs.inner.Steps.{MarkedTo}
use Rattle.factors_flat.proofs.mark_matched.Given as goal

abbrev pub invariant-loop-i : goal.invariant-loop-i
invariant-loop-i l = MarkedTo l.n l.perm l.cmax l.i l.work
