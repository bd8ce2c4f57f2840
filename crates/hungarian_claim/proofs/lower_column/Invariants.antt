-- `hungarian_claim::lower_column`: what the entries before k have lowered, whose laws are in Minima.
use Rattle.hungarian.specs.Graph.{graph_of}
use Rattle.hungarian_claim.proofs.Minima.{Lowering}
use Rattle.hungarian_claim.proofs.lower_column.Given as goal

abbrev pub invariant-loop-k : goal.invariant-loop-k
invariant-loop-k l = Lowering (graph_of l.n l.col_ptr l.row_idx l.cost) l.j l.initial.u l.initial.work l.u l.work l.k
