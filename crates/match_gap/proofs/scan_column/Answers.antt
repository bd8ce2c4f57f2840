-- `scan_column` meets its contract: each turn is one of the definition.
use Rattle.std.proofs.Common.{arith}
use Rattle.match_gap.proofs.Scanning.{scan_begins, scan_goes_on, scan_ends}
use Rattle.match_gap.proofs.scan_column.Goals as goal

pub loop-k-init : goal.loop-k-init
loop-k-init c = let a = c.args in
    scan_begins a.unit a.row a.row_idx.now a.cost.now a.u.now a.dual a.from a.to c.requires.fact_1.stretch.rises

pub loop-k-preserved : goal.loop-k-preserved
loop-k-preserved c = let a = c.args in
    scan_goes_on a.unit a.row a.row_idx.now a.cost.now a.u.now a.dual a.from a.to c.loop-k.invariant c.loop-k-test.true
    c.upper_place-high.ensures.0 c.lower_place-low.ensures.0 (c.above.ensures.0, omega (arith, c.above.ensures.1, c.upper_place-high.ensures.1))
    c.pair_lack.ensures c.max-excess.ensures c.max-lack.ensures

pub returns : goal.returns
returns c = let a = c.args in
    scan_ends a.unit a.row a.row_idx.now a.cost.now a.u.now a.dual a.from a.to c.loop-k-test.false c.loop-k.invariant
