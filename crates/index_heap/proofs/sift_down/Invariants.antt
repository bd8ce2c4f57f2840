-- `index_heap::sift_down`: the rows that have moved up so far, by Steps. The place rises to the length.
use Rattle.std.proofs.Common.{◌-◌, length}
use Rattle.index_heap.proofs.Steps.{Sinking}
use Rattle.index_heap.proofs.sift_down.Given as goal

abbrev pub invariant-loop-p : goal.invariant-loop-p
invariant-loop-p l =
    Sinking (length l.initial.pos) l.len l.i l.x l.initial.heap l.initial.pos l.initial.keys l.heap l.pos l.keys l.p

abbrev pub decreases-loop-p : goal.decreases-loop-p
decreases-loop-p l = l.len - l.p
