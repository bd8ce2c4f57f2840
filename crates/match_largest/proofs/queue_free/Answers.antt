-- `queue_free` meets its contract: each turn queues a column, or does not.
use Rattle.std.proofs.Common.{◌≡◌, ℕ, length, get_or, eqb, subst, arith}
use Rattle.limits.specs.Limits.{none}
use Rattle.match_largest.specs.inner.Sweeps.{Queued}
use Rattle.match_largest.proofs.Queueing.{byte_most, queue_begins, queue_few, queue_next}
use Rattle.match_largest.proofs.queue_free.Goals as goal

pub loop-j-init : goal.loop-j-init
loop-j-init c = queue_begins c.args.perm.now c.requires.1

pub offset_bounds-queue-free : goal.offset_bounds-queue-free
offset_bounds-queue-free c = omega (arith, c.requires, queue_few c.loop-j.invariant)

pub bounds-queue-free : goal.bounds-queue-free
bounds-queue-free c = omega (arith, c.requires, queue_few c.loop-j.invariant, c.loop-j.invariant.places)

pub overflow_add-free : goal.overflow_add-free
overflow_add-free c =
    omega (arith, c.requires, queue_few c.loop-j.invariant, c.from-free.ensures, byte_most (eqb (get_or c.args.perm.now c.loop-j.j 0) none))

pub loop-j-preserved : goal.loop-j-preserved
loop-j-preserved c = rw c.from-free.ensures (queue_next c.loop-j.invariant (omega (arith, c.requires)))

pub returns : goal.returns
returns c = let l = c.loop-j in
    subst (λ (m : ℕ). Queued c.args.perm.now m l.queue l.free) (let e : l.j ≡ length c.args.perm.now = omega arith in e) l.invariant
