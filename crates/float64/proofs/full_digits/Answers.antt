-- The digits of a normal double are those of its bits; those of a subnormal are shifted up as far as its leading zeros say.
use Rattle.std.proofs.Common.{◌*◌, ◌-◌, ℕ, sym, subst, arith}
use Rattle.std.specs.Float.{binary64}
use Rattle.std.specs.Float.Ieee.{of_bits}
use Rattle.float64.specs.Number.{magnitude, units_per_one}
use Rattle.float64.specs.inner.Digits.{Scaling}
use Rattle.float64.proofs.Normalised.{normal_scaling, subnormal_scaling, lifted, lift, lift_exact}
use Rattle.float64.proofs.full_digits.Goals as goal

pub overflow_sub-up : goal.overflow_sub-up
overflow_sub-up c = omega (arith, lifted c.args.bits c.requires.0 c.if-bits-lt4503599627370496.true)

pub returns-then-bits-lt4503599627370496 : goal.returns-then-bits-lt4503599627370496
returns-then-bits-lt4503599627370496 c =
    let b = c.args.bits in
    let small = c.if-bits-lt4503599627370496.true in
    let up = lifted b c.requires.0 small in
    subst (λ (m : ℕ). Scaling (magnitude (of_bits binary64 b) * units_per_one) m (1074 - lift b)) (sym (lift_exact b up))
    (subnormal_scaling b small up)

pub returns : goal.returns
returns c = normal_scaling c.args.bits c.if-bits-lt4503599627370496.false c.requires.1
