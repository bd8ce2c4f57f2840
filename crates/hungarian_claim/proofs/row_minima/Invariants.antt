-- `hungarian_claim::row_minima`: what the columns before j have lowered, whose laws are in Minima.
use Rattle.hungarian.specs.Graph.{graph_of}
use Rattle.hungarian_claim.proofs.Minima.{Scanning}
use Rattle.hungarian_claim.proofs.row_minima.Given as goal

abbrev pub invariant-loop-j : goal.invariant-loop-j
invariant-loop-j l = Scanning (graph_of l.n l.col_ptr l.row_idx l.cost) l.u l.work l.j
