-- `take_all` meets its contract: what one more step leaves past its entries is as it was at first.
use Rattle.triplets_sorted.proofs.Steps.{rest_after}
use Rattle.triplets_sorted.proofs.take_all.Goals as goal

pub loop-k-preserved : goal.loop-k-preserved
loop-k-preserved c =
    let next = c.take_next-kept.ensures in
    record { taken = next.fact; rest = rest_after c.loop-k.invariant.rest next.rest }
