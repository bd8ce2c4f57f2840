-- `hungarian_path::entry_distance`: each arm is a side of the test.
use Rattle.hungarian_path.specs.inner.Views.{entry_distance}
use Rattle.hungarian_path.proofs.entry_distance.Goals as goal

pub returns-then-root : goal.returns-then-root
unfolding entry_distance
returns-then-root c = rw c.if-root.true

pub returns-else-root : goal.returns-else-root
unfolding entry_distance
returns-else-root c = rw c.if-root.false
