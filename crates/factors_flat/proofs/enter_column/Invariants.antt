-- The loop of `enter_column`: the entries before k have entered.
use Rattle.std.proofs.Common.{◌+◌, ◌≤◌, length, get_or}
use Rattle.sparse.specs.Matrix.{matrix}
use Rattle.factors_mc64.specs.Calls.{slices}
use Rattle.factors_flat.specs.inner.Steps.{Enters}
use Rattle.factors_flat.proofs.enter_column.Given as goal

abbrev pub invariant-loop-k : goal.invariant-loop-k
invariant-loop-k l =
    let before = slices l.initial.factors l.initial.work in
    (l.k ≤ get_or l.col_ptr (l.j + 1) 0)
    × Enters (matrix (length l.initial.factors) l.col_ptr l.row_idx l.values) l.logs (get_or l.col_ptr l.j 0) l.k before
    (slices l.factors l.work)
