-- `sums_hold` meets its contract: each turn is one of the definition.
use Rattle.std.proofs.Common.{Bool, ◌+◌, ◌&&◌, subst, arith}
use Rattle.hungarian.specs.Graph.{graph_of}
use Rattle.match_check.specs.Check.{claim}
use Rattle.match_check.specs.inner.Steps.{sum_holds, column_sums_hold, sums_hold}
use Rattle.match_check.proofs.Every.{Every, every_goes_on, every_all}
use Rattle.match_check.proofs.Columns.{stretch, every_column}
use Rattle.match_check.proofs.sums_hold.Goals as goal

pub column_holds-fine-requires : goal.column_holds-fine-requires
column_holds-fine-requires g c κs within =
    let p = c.requires.1 in (within, (stretch p.0 c.loop-j.j (omega arith), p.1))

pub loop-j-preserved : goal.loop-j-preserved
loop-j-preserved g c =
    let a = c.args in
    let l = c.loop-j in
    let graph = graph_of a.n a.col_ptr.now a.row_idx.now a.cost.now in
    let s = claim a.perm.now a.u.now a.v.now in
    subst (λ (t : Bool). Every (column_sums_hold g.holds graph s) 0 a.n (l.fine && t) (l.j + 1))
    (every_column a.col_ptr.now (sum_holds g.holds graph s l.j) l.j c.column_holds-fine.ensures)
    (every_goes_on (column_sums_hold g.holds graph s) 0 a.n l.fine l.j (omega arith) l.invariant)

pub returns : goal.returns
unfolding sums_hold
returns g c = let a = c.args in let l = c.loop-j in
    let graph = graph_of a.n a.col_ptr.now a.row_idx.now a.cost.now in
    every_all (column_sums_hold g.holds graph (claim a.perm.now a.u.now a.v.now)) a.n l.fine l.j (omega arith) l.invariant
