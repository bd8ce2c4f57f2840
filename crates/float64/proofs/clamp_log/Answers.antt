-- The library's `clamp` makes the tests of the definition.
use Rattle.std.specs.Float.Ieee.{of_bits, neg}
use Rattle.float64.specs.Functions.{clamp_log}
use Rattle.float64.proofs.clamp_log.Goals as goal

pub returns : goal.returns
unfolding clamp_log of_bits neg
returns c = c.clamp.ensures.value
