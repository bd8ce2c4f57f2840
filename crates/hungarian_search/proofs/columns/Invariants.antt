-- `hungarian_search::columns`: the state in which column j has its turn is in memory.
use Rattle.hungarian.specs.Graph.{graph_of}
use Rattle.hungarian_search.specs.inner.Steps.{Standing}
use Rattle.hungarian_search.proofs.columns.Given as goal

abbrev pub invariant-loop-j : goal.invariant-loop-j
invariant-loop-j l = Standing (graph_of l.n l.col_ptr l.row_idx l.cost) l.u l.work l.pos l.keys l.d l.s l.j
