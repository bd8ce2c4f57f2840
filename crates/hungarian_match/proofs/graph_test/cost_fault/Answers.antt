-- `graph_test::cost_fault`: one more cost is tested, and the test of all says which number is answered, by Tests.
use Rattle.std.proofs.Common.{sym}
use Rattle.hungarian_match.proofs.Tests.{test_goes_on, test_ends}
use Rattle.hungarian_match.proofs.graph_test.cost_fault.Goals as goal

pub loop-x-preserved : goal.loop-x-preserved
loop-x-preserved c =
    let a = c.args in
    let l = c.loop-x in
    rw (c.in_range-fine.ensures a.n c.cost_limit-limit.ensures)
    (test_goes_on a.n a.cost.now l.fine l.x-index c.loop-x-test.true l.invariant)

pub returns-then-fine : goal.returns-then-fine
returns-then-fine c =
    let l = c.loop-x in
    rw c.if-fine.true at (sym (test_ends c.args.n c.args.cost.now l.fine l.x-index c.loop-x-test.false l.invariant))

pub returns-else-fine : goal.returns-else-fine
returns-else-fine c =
    let l = c.loop-x in
    rw c.if-fine.false at (sym (test_ends c.args.n c.args.cost.now l.fine l.x-index c.loop-x-test.false l.invariant))
