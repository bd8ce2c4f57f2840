-- `sums_hold`: the result of the test over the columns before j.
use Rattle.hungarian.specs.Graph.{graph_of}
use Rattle.match_check.specs.Check.{claim}
use Rattle.match_check.specs.inner.Steps.{column_sums_hold}
use Rattle.match_check.proofs.Every.{Every}
use Rattle.match_check.proofs.sums_hold.Given as goal

abbrev pub ghost-column_holds : goal.ghost-column_holds
ghost-column_holds g a = g.holds

abbrev pub invariant-loop-j : goal.invariant-loop-j
invariant-loop-j g l =
    Every (column_sums_hold g.holds (graph_of l.n l.col_ptr l.row_idx l.cost) (claim l.perm l.u l.v)) 0 l.n l.fine l.j
