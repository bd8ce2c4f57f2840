-- `duals_hold` meets its contract: it is the definition's chain of tests.
use Rattle.std.proofs.Common.{refl}
use Rattle.match_check.specs.Check.{duals_hold, sums_below}
use Rattle.match_check.specs.inner.Steps.{sums_hold}
use Rattle.match_check.proofs.duals_hold.Goals as goal

pub returns : goal.returns
unfolding duals_hold sums_below sums_hold
returns c = rw (c.small_wholes-rows.ensures, c.small_wholes-columns.ensures, c.sums_hold-sums.ensures) refl
