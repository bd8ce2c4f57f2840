-- `index_heap::sift_up`: the rows that have moved down so far, by Steps. The place falls.
use Rattle.std.proofs.Common.{length}
use Rattle.index_heap.proofs.Steps.{Rising}
use Rattle.index_heap.proofs.sift_up.Given as goal

abbrev pub invariant-loop-p : goal.invariant-loop-p
invariant-loop-p l =
    Rising (length l.initial.pos) l.i l.x l.place l.initial.heap l.initial.pos l.initial.keys l.heap l.pos l.keys l.p

abbrev pub decreases-loop-p : goal.decreases-loop-p
decreases-loop-p l = l.p
