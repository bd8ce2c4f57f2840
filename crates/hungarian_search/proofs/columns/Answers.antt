-- `hungarian_search::columns`: a free column is augmented, another passed over, by Standings.
use Rattle.hungarian_search.proofs.Standings.{search_asks, column_passes, column_searched}
use Rattle.hungarian_search.proofs.columns.Goals.{then-free, else-free}
use Rattle.hungarian_search.proofs.columns.Goals as goal

pub augment-s-requires-clause-fact_1 : goal.augment-s-requires-clause-fact_1
augment-s-requires-clause-fact_1 c =
    search_asks _ _ _ _ _ _ _ _ c.loop-j.invariant c.loop-j-test.true c.if-free.true

pub loop-j-preserved : goal.loop-j-preserved
loop-j-preserved c =
    let here = c.loop-j.invariant in
    let below = c.loop-j-test.true in
    elim c.if-free.branch [
      | then-free w ↦
          let kept = w.augment-s.auto in
          rw (w.u-is, w.work-is, w.pos-is, w.keys-is, w.d-is, w.s-is)
          (column_searched _ _ _ _ _ _ _ _ here below w.if-free.true _ _ _ _ _ _ kept.work kept.pos kept.keys
          w.augment-s.ensures)
      | else-free w ↦
          rw (w.u-is, w.work-is, w.pos-is, w.keys-is, w.d-is, w.s-is)
          (column_passes _ _ _ _ _ _ _ _ here below w.if-free.false)
    ]
