-- `logs_fault`: one more log is tested, and in the end all are.
use Rattle.std.proofs.Common.{sym, ◌∙◌, refl}
use Rattle.refusal.specs.Refusal.{cost_range}
use Rattle.sparse.proofs.Alike.{test_begins, test_goes_on}
use Rattle.mc64_general.proofs.Fits.{some, fits, ends}
use Rattle.mc64_general.proofs.logs_fault.Goals as goal

pub loop-k-init : goal.loop-k-init
loop-k-init c = test_begins (fits c.args.n c.args.values.now c.args.logs.now) cost_range _ some

pub loop-k-preserved : goal.loop-k-preserved
loop-k-preserved c =
    rw (c.log_fits-fine.ensures c.args.n c.log_limit-limit.ensures)
    (test_goes_on (fits c.args.n c.args.values.now c.args.logs.now) cost_range _ some c.loop-k.fine c.loop-k.k
    c.loop-k-test.true c.loop-k.invariant)

pub returns-then-fine : goal.returns-then-fine
returns-then-fine c =
    sym (ends _ _ _ c.loop-k.fine c.loop-k.k c.loop-k-test.false c.loop-k.invariant ∙ rw c.if-fine.true refl)

pub returns-else-fine : goal.returns-else-fine
returns-else-fine c =
    sym (ends _ _ _ c.loop-k.fine c.loop-k.k c.loop-k-test.false c.loop-k.invariant ∙ rw c.if-fine.false refl)
