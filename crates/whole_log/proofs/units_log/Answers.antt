-- The digits of the double are those that the definition takes.
use Rattle.std.proofs.Common.{◌∙◌}
use Rattle.std.specs.Float.{binary64}
use Rattle.std.specs.Float.Ieee.{of_bits}
use Rattle.float64.specs.Number.{magnitude}
use Rattle.whole_log.proofs.Theorems.{log_digits}
use Rattle.whole_log.proofs.units_log.Goals as goal

pub returns : goal.returns
returns c =
    let x = c.full_digits-x in
    let n = magnitude (of_bits binary64 c.args.bits) in
    (c.log_from.ensures.0 ∙ log_digits n x.result.significand x.result.exponent x.ensures, c.log_from.ensures.1)
