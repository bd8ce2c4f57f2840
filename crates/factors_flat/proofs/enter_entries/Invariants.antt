-- The loop of `enter_entries`: the columns before j have entered.
use Rattle.std.proofs.Common.{get_or}
use Rattle.sparse.specs.Matrix.{matrix}
use Rattle.factors_mc64.specs.Calls.{slices}
use Rattle.factors_flat.specs.inner.Steps.{Enters}
use Rattle.factors_flat.proofs.enter_entries.Given as goal

abbrev pub invariant-loop-j : goal.invariant-loop-j
invariant-loop-j l =
    let before = slices l.initial.factors l.initial.work in
    Enters (matrix l.n l.col_ptr l.row_idx l.values) l.logs 0 (get_or l.col_ptr l.j 0) before (slices l.factors l.work)
