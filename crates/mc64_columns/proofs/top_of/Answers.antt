-- `top_of`: the first log is the largest so far, one more counts if it is larger, and in the end none is left.
use Rattle.std.proofs.Common.{arith}
use Rattle.std.specs.Prelude.{true, false}
use Rattle.mc64_columns.proofs.Loops.{largest_begins, largest_goes_on, largest_ends}
use Rattle.mc64_columns.proofs.top_of.Goals as goal
use Rattle.mc64_columns.proofs.top_of.Goals.{then-log-top, else-log-top}

pub loop-log-init : goal.loop-log-init
loop-log-init c = largest_begins c.args.column.now c.requires

pub loop-log-preserved : goal.loop-log-preserved
loop-log-preserved c =
    let goes_on = largest_goes_on _ _ _ c.loop-log.log-index (omega arith) c.loop-log.invariant in
    elim c.if-log-top.branch [
      | then-log-top w ↦ rw w.top-is (goes_on true w.if-log-top.true)
      | else-log-top w ↦ rw w.top-is (goes_on false w.if-log-top.false)
    ]

pub returns : goal.returns
returns c = largest_ends _ _ _ c.loop-log.log-index (omega arith) c.loop-log.invariant
