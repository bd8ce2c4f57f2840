-- The pattern is no NaN's: its exponent is small enough.
use Rattle.std.proofs.Common.{arith}
use Rattle.float64.proofs.Bits.{no_nan}
use Rattle.root_blocks.proofs.root_with.Goals as goal

pub float_from_bits-result : goal.float_from_bits-result
float_from_bits-result c = no_nan _ (omega arith)
