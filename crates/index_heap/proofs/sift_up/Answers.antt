-- `index_heap::sift_up`: one more row moves down, and the row is put where it stops, by Steps.
use Rattle.std.proofs.Common.{inl, inr}
use Rattle.index_heap.proofs.Steps.{rising_turn, rising_end}
use Rattle.index_heap.proofs.sift_up.Goals.{else-loop-p-test, then-loop-p-test+then-x-above}
use Rattle.index_heap.proofs.sift_up.Goals as goal

pub loop-p-preserved : goal.loop-p-preserved
loop-p-preserved c =
    rising_turn _ _ _ _ _ _ _ c.requires.fact_4 _ _ _ _ c.loop-p.invariant c.loop-p-test.true c.if-x-above.false

pub returns : goal.returns
returns c =
    rising_end _ _ _ _ _ _ _ c.requires.fact_4 _ _ _ _ c.loop-p.invariant
    (elim c.loop-p-test.branch [
      | else-loop-p-test w ↦ inl w.loop-p-test.false
      | then-loop-p-test+then-x-above w ↦ inr w.if-x-above.true
    ])
