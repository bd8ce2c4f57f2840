-- A number of 32 digits is h * 2 ^ 16 + l, and its square is put together from h * h, h * l and l * l (`halves`).
use Rattle.std.proofs.Common.{arith}
use Rattle.whole_log.proofs.Squares.{halves}
use Rattle.whole_log.proofs.square.Goals as goal

pub returns : goal.returns
returns c =
    omega (arith, halves c.args.m c.ranges.m.fits, c.product-upper.ensures, c.product-middle.ensures, c.product-lower.ensures)
