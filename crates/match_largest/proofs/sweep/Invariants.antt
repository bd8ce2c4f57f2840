-- `sweep`: the columns before `head` are searched (`Sweeping`).
use Rattle.std.proofs.Common.{◌-◌}
use Rattle.sparse.specs.Pattern.{pattern}
use Rattle.match_largest.specs.inner.Sweeps.{Sweeping}
use Rattle.match_largest.proofs.sweep.Given as goal

abbrev pub invariant-loop-head : goal.invariant-loop-head
invariant-loop-head l = Sweeping (pattern l.n l.col_ptr l.row_idx) l.inverse l.met l.queue l.head 0 l.end

abbrev pub decreases-loop-head : goal.decreases-loop-head
decreases-loop-head l = l.n - l.head
