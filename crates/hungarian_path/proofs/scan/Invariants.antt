-- `hungarian_path::scan`: the tree once the entries before k are examined, whose laws are in Scans.
use Rattle.hungarian.specs.Graph.{graph_of}
use Rattle.hungarian_path.proofs.Scans.{ScanAt}
use Rattle.hungarian_path.proofs.scan.Given as goal

abbrev pub invariant-loop-k : goal.invariant-loop-k
invariant-loop-k l =
    ScanAt (graph_of l.n l.col_ptr l.row_idx l.cost) l.u l.initial.work l.initial.pos l.initial.keys l.initial.d
    l.initial.t l.root l.v l.j l.work l.pos l.keys l.d l.t l.k
