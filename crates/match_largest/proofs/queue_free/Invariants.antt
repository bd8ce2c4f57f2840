-- `queue_free`: the places so far are those of the columns before the index (`Queued`).
use Rattle.match_largest.specs.inner.Sweeps.{Queued}
use Rattle.match_largest.proofs.queue_free.Given as goal

abbrev pub invariant-loop-j : goal.invariant-loop-j
invariant-loop-j l = Queued l.perm l.j l.queue l.free
