-- `hungarian_path::grow`: the tree grows as the definition's, by Growths. Each turn pops a row, of which there are n.
use Rattle.std.proofs.Common.{◌-◌}
use Rattle.hungarian.specs.Graph.{graph_of}
use Rattle.hungarian_path.proofs.Growths.{GrowAt}
use Rattle.hungarian_path.proofs.grow.Given as goal

abbrev pub invariant-loop-work : goal.invariant-loop-work
invariant-loop-work l =
    GrowAt (graph_of l.n l.col_ptr l.row_idx l.cost) l.u l.initial.work l.initial.pos l.initial.keys l.initial.d
    l.initial.search.frontier l.initial.search.stats l.work l.pos l.keys l.d l.search.frontier l.search.stats

abbrev pub decreases-loop-work : goal.decreases-loop-work
decreases-loop-work l = l.n - l.search.frontier.popped
