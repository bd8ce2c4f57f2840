-- `matching_fault`: too many are matched, or the first entry with a fault is found, or none has one.
use Rattle.std.proofs.Common.{refl, arith}
use borrow.Author.Tests.{le-leb, lt-leb}
use Rattle.sparse.proofs.First.{from_zero, pass, found, done}
use Rattle.factors_mc64.specs.Calls.{matching_fault}
use Rattle.factors_mc64.proofs.matching_fault.Goals as goal

pub returns-then-matched-n : goal.returns-then-matched-n
unfolding matching_fault
returns-then-matched-n c = rw (lt-leb _ _ c.if-matched-n.true) refl

pub loop-row-init : goal.loop-row-init
loop-row-init c = from_zero _ _

pub returns-then-not-row_or_none : goal.returns-then-not-row_or_none
unfolding matching_fault
returns-then-not-row_or_none c =
    rw (le-leb _ _ c.if-matched-n.false)
    (found _ _ c.loop-row.row-index c.loop-row.invariant c.loop-row-test.true
    (rw (← c.row_or_none.ensures, c.if-not-row_or_none.true) refl) (omega arith))

pub loop-row-preserved : goal.loop-row-preserved
loop-row-preserved c =
    pass _ _ c.loop-row.row-index c.loop-row.invariant c.loop-row-test.true
    (rw (← c.row_or_none.ensures, c.if-not-row_or_none.false) refl)

pub returns : goal.returns
unfolding matching_fault
returns c =
    rw (le-leb _ _ c.if-matched-n.false) (done _ _ c.loop-row.row-index c.loop-row.invariant c.loop-row-test.false)
