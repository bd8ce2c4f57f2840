-- `values_fault`: one more value is tested, and in the end all are.
use Rattle.std.proofs.Common.{sym, ◌∙◌, refl, arith}
use Rattle.refusal.specs.Refusal.{value_not_finite}
use Rattle.sparse.proofs.Alike.{test_begins, test_goes_on}
use Rattle.whole_graphs.proofs.Finite.{fine, some, ends}
use Rattle.whole_graphs.proofs.values_fault.Goals as goal

pub loop-value-init : goal.loop-value-init
loop-value-init c = test_begins (fine c.args.values.now) value_not_finite _ some

pub loop-value-preserved : goal.loop-value-preserved
loop-value-preserved c =
    let l = c.loop-value in
    rw c.is_finite-fine.ensures
    (test_goes_on (fine c.args.values.now) value_not_finite _ some l.fine l.value-index c.loop-value-test.true l.invariant)

pub returns-then-fine : goal.returns-then-fine
returns-then-fine c =
    let l = c.loop-value in
    sym (ends _ l.fine l.value-index c.loop-value-test.false l.invariant ∙ rw c.if-fine.true refl)

pub returns-else-fine : goal.returns-else-fine
returns-else-fine c =
    let l = c.loop-value in
    sym (ends _ l.fine l.value-index c.loop-value-test.false l.invariant ∙ rw c.if-fine.false refl)
