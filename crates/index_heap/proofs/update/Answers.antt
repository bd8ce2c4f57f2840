-- `index_heap::update`: the place that it reads is the row's, and `sift_up` does the rest.
use Rattle.index_heap.proofs.Steps.{update_done}
use Rattle.index_heap.proofs.update.Goals as goal

pub returns : goal.returns
returns c = update_done _ _ _ _ _ _ _ _ c.sift_up.ensures
