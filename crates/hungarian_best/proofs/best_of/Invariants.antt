-- `hungarian_best::best_of`: the best of the entries before k, whose laws are in Choices.
use Rattle.hungarian.specs.Graph.{graph_of}
use Rattle.hungarian_best.proofs.Choices.{Choosing}
use Rattle.hungarian_best.proofs.best_of.Given as goal

abbrev pub invariant-loop-k : goal.invariant-loop-k
invariant-loop-k l =
    Choosing (graph_of l.n l.col_ptr l.row_idx l.cost) l.u l.work l.j l.k l.best l.kept_free l.at_limit
