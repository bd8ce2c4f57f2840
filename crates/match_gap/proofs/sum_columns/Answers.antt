-- `sum_columns` meets its contract: each turn is one of the definition.
use Rattle.std.proofs.Common.{arith}
use Rattle.match_gap.proofs.Summing.{sum_begins, sum_goes_on, sum_ends, scannable}
use Rattle.match_gap.proofs.sum_columns.Goals as goal

pub loop-j-init : goal.loop-j-init
loop-j-init c = let a = c.args in
    sum_begins a.unit a.n a.col_ptr.now a.row_idx.now a.cost.now a.perm.now a.u.now a.v.now

pub scan_column-column-requires-clause-fact_1 : goal.scan_column-column-requires-clause-fact_1
scan_column-column-requires-clause-fact_1 c = scannable _ _ _ _ _ _ _ _ c.requires c.loop-j.j (omega arith)

pub loop-j-preserved : goal.loop-j-preserved
loop-j-preserved c = let a = c.args in
    sum_goes_on a.unit a.n a.col_ptr.now a.row_idx.now a.cost.now a.perm.now a.u.now a.v.now c.loop-j.invariant
    (omega arith) c.scan_column-column.ensures

pub returns : goal.returns
returns c = let a = c.args in
    sum_ends a.unit a.n a.col_ptr.now a.row_idx.now a.cost.now a.perm.now a.u.now a.v.now c.loop-j-test.false
    c.loop-j.invariant
