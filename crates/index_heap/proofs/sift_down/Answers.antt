-- `index_heap::sift_down`: one more row moves up, and the row is put where it stops, by Steps. The child is a row.
use Rattle.std.proofs.Common.{◌*◌, ◌≤◌, ◌<◌, length, get_or, arith}
use Rattle.index_heap.proofs.Steps.{sinking_start, child_row, sinking_turn, sinking_end, sinking_stop}
use Rattle.index_heap.proofs.sift_down.Goals.{After-chosen-child, else-loop-p-test, then-loop-p-test+then-x-below}
use Rattle.index_heap.proofs.sift_down.Goals as goal

-- the child's place and its row
child : (c : After-chosen-child) → (2 * c.loop-p.p ≤ c.chosen-child.result) × (c.chosen-child.result ≤ c.args.len)
    × (get_or c.loop-p.heap c.chosen-child.result 0 < length c.args.pos.now)
child c =
    child_row _ _ _ _ _ _ _ c.requires.fact_4 _ _ _ _ c.loop-p.invariant _ c.chosen-child.ensures c.loop-p-test.true

pub loop-p-init : goal.loop-p-init
loop-p-init c = sinking_start _ _ _ _ _ _ _ c.requires.fact_4 c.requires.fact_1 c.requires.fact_3

pub overflow_sub-below : goal.overflow_sub-below
overflow_sub-below c = omega (arith, child (goal.at.overflow_sub-below c).After-chosen-child)

pub offset_bounds-keys-child : goal.offset_bounds-keys-child
offset_bounds-keys-child c = omega (arith, child (goal.at.offset_bounds-keys-child c).After-chosen-child)

pub bounds-keys-child : goal.bounds-keys-child
bounds-keys-child c = omega (arith, child (goal.at.bounds-keys-child c).After-chosen-child)

pub offset_bounds-heap-child : goal.offset_bounds-heap-child
offset_bounds-heap-child c = omega (arith, child (goal.at.offset_bounds-heap-child c).After-chosen-child)

pub bounds-heap-child : goal.bounds-heap-child
bounds-heap-child c = omega (arith, child (goal.at.bounds-heap-child c).After-chosen-child)

pub bounds-pos-row : goal.bounds-pos-row
bounds-pos-row c = omega (arith, child (goal.at.bounds-pos-row c).After-chosen-child)

pub loop-p-smaller : goal.loop-p-smaller
loop-p-smaller c = omega (arith, child (goal.at.loop-p-smaller c).After-chosen-child)

pub loop-p-preserved : goal.loop-p-preserved
loop-p-preserved c =
    sinking_turn _ _ _ _ _ _ _ c.requires.fact_4 _ _ _ _ c.loop-p.invariant _ c.chosen-child.ensures
    c.loop-p-test.true c.if-x-below.false

pub returns : goal.returns
returns c =
    elim c.loop-p-test.branch [
      | else-loop-p-test w ↦
          sinking_end _ _ _ _ _ _ _ c.requires.fact_4 _ _ _ _ c.loop-p.invariant w.loop-p-test.false
      | then-loop-p-test+then-x-below w ↦
          sinking_stop _ _ _ _ _ _ _ c.requires.fact_4 _ _ _ _ c.loop-p.invariant _ w.chosen-child.ensures
          w.loop-p-test.true w.if-x-below.true
    ]
