-- The loop of `turn_sums`: the factors below i are turned, the others as they were.
use Rattle.slices.specs.inner.Steps.{Front}
use Rattle.factors_mc64.specs.Calls.{slices}
use Rattle.factors_flat.specs.inner.Steps.{turned_all}
use Rattle.factors_flat.proofs.turn_sums.Given as goal

abbrev pub invariant-loop-i : goal.invariant-loop-i
invariant-loop-i l = Front (turned_all l.n (slices l.initial.factors l.work)) l.initial.factors l.factors l.i
