-- `hungarian_init::improve_assign`: the three loops keep `Outer`, `Middle` and `Inner`, whose laws are in Improving.
use Rattle.hungarian.specs.Graph.{graph_of}
use Rattle.hungarian_init.specs.inner.Steps.{improved}
use Rattle.hungarian_init.proofs.Improving.{Outer, Middle, Inner}
use Rattle.hungarian_init.proofs.improve_assign.Given as goal

abbrev pub invariant-improve_assign : goal.invariant-improve_assign
invariant-improve_assign l =
    let g = graph_of l.n l.col_ptr l.row_idx l.cost in
    Outer g l.u (improved g) l.j l.work l.fwork l.num l.stats

abbrev pub invariant-loop-k : goal.invariant-loop-k
invariant-loop-k l =
    let g = graph_of l.n l.col_ptr l.row_idx l.cost in
    Middle g l.u (improved g) l.j l.vj l.k l.work l.fwork l.num l.stats

abbrev pub invariant-loop-kk : goal.invariant-loop-kk
invariant-loop-kk l =
    let g = graph_of l.n l.col_ptr l.row_idx l.cost in
    Inner g l.u (improved g) l.j l.vj l.k l.jj l.kk l.work l.fwork l.num l.stats
