-- `hungarian_path::scan`: one more entry is examined, by Scans. Its row is one of the n.
use Rattle.std.proofs.Common.{add-one, arith}
use Rattle.hungarian_path.proofs.Scans.{scan_start, entry_in, scan_edge, scan_turn, scan_end}
use Rattle.hungarian_path.proofs.scan.Goals as goal

pub loop-k-init : goal.loop-k-init
loop-k-init c = scan_start _ _ _ _ _ _ _ _ _ _ c.requires

pub bounds-row_idx-k : goal.bounds-row_idx-k
bounds-row_idx-k c =
    (entry_in _ _ _ _ _ _ _ _ _ _ c.requires _ _ _ _ _ _ c.loop-k.invariant (rw add-one at c.loop-k-test.true)).0

pub bounds-cost-k : goal.bounds-cost-k
bounds-cost-k c =
    omega (
      arith,
      entry_in _ _ _ _ _ _ _ _ _ _ c.requires _ _ _ _ _ _ c.loop-k.invariant (rw add-one at c.loop-k-test.true),
    )

pub edge-t-requires : goal.edge-t-requires
edge-t-requires c =
    rw c.entry_distance-x.ensures
    (scan_edge _ _ _ _ _ _ _ _ _ _ c.requires _ _ _ _ _ _ c.loop-k.invariant (rw add-one at c.loop-k-test.true))

pub loop-k-preserved : goal.loop-k-preserved
loop-k-preserved c =
    let kept = c.edge-t.auto in
    scan_turn _ _ _ _ _ _ _ _ _ _ c.requires _ _ _ _ _ _ c.loop-k.invariant (rw add-one at c.loop-k-test.true)
    _ _ _ _ _ kept.work kept.pos kept.keys kept.d (rw c.entry_distance-x.ensures at c.edge-t.ensures)

pub returns : goal.returns
returns c =
    scan_end _ _ _ _ _ _ _ _ _ _ c.requires _ _ _ _ _ _ c.loop-k.invariant (rw add-one at c.loop-k-test.false)
