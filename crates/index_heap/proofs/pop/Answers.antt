-- `index_heap::pop`: the store takes the top out, and `sift_down` puts the last row at its place, unless it was the only one.
use Rattle.std.proofs.Common.{length, arith}
use Rattle.index_heap.proofs.Steps.{pop_done, pop_last}
use Rattle.index_heap.proofs.pop.Goals as goal

pub returns-then-len-gt1 : goal.returns-then-len-gt1
returns-then-len-gt1 c =
    pop_done (length c.args.pos.now) _ _ _ _ c.requires.fact_2 _ _ _ c.if-len-gt1.true c.sift_down.ensures

pub returns-else-len-gt1 : goal.returns-else-len-gt1
returns-else-len-gt1 c = pop_last (length c.args.pos.now) _ _ _ _ c.requires.fact_2 (omega arith)
