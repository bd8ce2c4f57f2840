-- `mark_rows`: a row is below n where it is not none, and is marked; none is no row.
use Rattle.std.proofs.Common.{arith}
use lib.Seq.{length-take-le, get_or-take}
use Rattle.factors_mc64.proofs.Loops.{row_inside, mark_none, mark_row}
use Rattle.factors_mc64.proofs.mark_rows.Goals as goal
use Rattle.factors_mc64.proofs.mark_rows.Goals.{then-row, else-row}

pub loop-row-preserved : goal.loop-row-preserved
loop-row-preserved c =
    let all = length-take-le c.args.n c.args.perm.now (omega arith) in
    let inside = c.requires.rows c.loop-row.row-index (omega arith) in
    let same = get_or-take c.args.n c.args.perm.now c.loop-row.row-index 0 (omega arith) in
    elim c.if-row.branch [
      | then-row w ↦ rw (w.work-is, same) (mark_row c.loop-row.invariant (row_inside _ _ inside (rw same at w.if-row.true)))
      | else-row w ↦ rw w.work-is (mark_none c.loop-row.invariant (omega arith) (rw same at w.if-row.false))
    ]
