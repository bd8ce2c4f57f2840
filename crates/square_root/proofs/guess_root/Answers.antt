-- No pattern that is read is a NaN's. Of the guess's accuracy nothing is shown.
use Rattle.std.proofs.Common.{arith}
use Rattle.float64.proofs.Bits.{no_nan}
use Rattle.square_root.proofs.guess_root.Goals as goal

pub float_from_bits-x : goal.float_from_bits-x
float_from_bits-x c = no_nan _ (omega arith)

pub float_from_bits-first : goal.float_from_bits-first
float_from_bits-first c = no_nan _ (omega arith)
