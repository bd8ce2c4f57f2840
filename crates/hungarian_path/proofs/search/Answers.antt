-- `hungarian_path::search`: the root's column and the rows after it, by Roots.
use Rattle.std.proofs.Common.{arith}
use Rattle.hungarian.specs.Counts.{search_begun}
use Rattle.hungarian_path.proofs.Roots.{root_ranges, root_asks, root_growing, root_finds}
use Rattle.hungarian_path.proofs.search.Goals as goal

pub column_scanned-counted-requires : goal.column_scanned-counted-requires
unfolding search_begun
column_scanned-counted-requires c =
    rw c.search_begun.ensures (omega (arith, root_ranges _ _ _ _ _ _ _ _ c.requires, c.column_length.ensures))

pub scan-first-requires : goal.scan-first-requires
scan-first-requires c = root_asks _ _ _ _ _ _ _ _ c.requires _

pub grow-grown-requires-clause-fact_1 : goal.grow-grown-requires-clause-fact_1
grow-grown-requires-clause-fact_1 c =
    rw (c.column_scanned-counted.ensures, c.column_length.ensures, c.search_begun.ensures)
    (root_growing _ _ _ _ _ _ _ _ c.requires _ _ _ _ _ _ c.scan-first.ensures c.scan-first.auto.work
    (c.scan-first.auto.pos, c.scan-first.auto.keys)).0

pub returns : goal.returns
returns c =
    root_finds _ _ _ _ _ _ _ _ c.requires _ _ _ _ _ _ c.scan-first.ensures c.scan-first.auto.work
    (c.scan-first.auto.pos, c.scan-first.auto.keys) _ _ _ _ _
    (rw (c.column_scanned-counted.ensures, c.column_length.ensures, c.search_begun.ensures) at c.grow-grown.ensures)
    _ c.ended-end.ensures
