-- `hungarian_best::best_of`: one more entry is tested, by the laws of Choices. An entry's row is one of the n.
use Rattle.std.proofs.Common.{arith}
use Rattle.hungarian_claim.proofs.Words.{entry_in}
use Rattle.hungarian_best.proofs.Choices.{choosing_start, choosing_stays, choosing_moves, choosing_end}
use Rattle.hungarian_best.proofs.best_of.Goals.{then-best-value, else-best-value}
use Rattle.hungarian_best.proofs.best_of.Goals as goal

pub bounds-row_idx-start : goal.bounds-row_idx-start
bounds-row_idx-start c = (entry_in _ _ _ c.requires.fact_1.sound c.requires.fact_2 c.requires.fact_3).0

pub bounds-cost-start : goal.bounds-cost-start
bounds-cost-start c =
    let inside = entry_in _ _ _ c.requires.fact_1.sound c.requires.fact_2 c.requires.fact_3 in omega arith

pub bounds-work-first : goal.bounds-work-first
bounds-work-first c =
    let inside = entry_in _ _ _ c.requires.fact_1.sound c.requires.fact_2 c.requires.fact_3 in omega arith

pub loop-k-init : goal.loop-k-init
loop-k-init c = choosing_start c.requires.fact_1.sound c.requires.fact_2 _ _ c.requires.fact_3

pub bounds-row_idx-k : goal.bounds-row_idx-k
bounds-row_idx-k c = (entry_in _ _ _ c.requires.fact_1.sound c.requires.fact_2 c.loop-k-test.true).0

pub bounds-cost-k : goal.bounds-cost-k
bounds-cost-k c =
    let inside = entry_in _ _ _ c.requires.fact_1.sound c.requires.fact_2 c.loop-k-test.true in omega arith

pub loop-k-preserved : goal.loop-k-preserved
loop-k-preserved c =
    let sound = c.requires.fact_1.sound in
    let below = c.requires.fact_2 in
    let here = c.loop-k.invariant in
    let more = c.loop-k-test.true in
    elim c.if-best-value.branch [
      | then-best-value w ↦
          rw (w.best-is, w.kept_free-is, w.at_limit-is) (choosing_moves sound below here more w.if-best-value.true)
      | else-best-value w ↦
          rw (w.best-is, w.kept_free-is, w.at_limit-is) (choosing_stays sound below here more w.if-best-value.false)
    ]

pub returns : goal.returns
returns c = choosing_end c.requires.fact_1.sound c.requires.fact_2 c.loop-k.invariant c.loop-k-test.false
