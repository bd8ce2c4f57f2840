-- `lower_place` meets its contract: by the sign, the steps of the size are taken off the place of zero or added to it.
use Rattle.std.proofs.Common.{ℕ, ◌+◌, ◌-◌, ap, ◌∙◌, arith}
use Rattle.whole_log.proofs.Theorems.{finite_no_nan}
use Rattle.match_gap.specs.Rounding.{zero_step}
use Rattle.match_gap.proofs.Signs.{measured_clear, measured_raised, lower_clear, lower_raised}
use Rattle.match_gap.proofs.lower_place.Goals as goal

pub float_to_bits-bits : goal.float_to_bits-bits
float_to_bits-bits c = finite_no_nan c.args.x c.requires.fact_1.number.is_finite

pub floor_steps-requires : goal.floor_steps-requires
floor_steps-requires c = measured_clear c.args.unit c.args.x c.requires.fact_1 c.requires.fact_2 c.if-bits-lt-SIGN.true

pub ceiling_steps-requires : goal.ceiling_steps-requires
ceiling_steps-requires c = measured_raised c.args.unit c.args.x c.requires.fact_1 c.requires.fact_2 c.if-bits-lt-SIGN.false

pub returns-then-bits-lt-SIGN : goal.returns-then-bits-lt-SIGN
returns-then-bits-lt-SIGN c = (
  ap (λ (r : ℕ). zero_step + r) c.floor_steps.ensures.0
      ∙ lower_clear c.args.unit c.args.x c.requires.fact_1 c.requires.fact_2 c.if-bits-lt-SIGN.true,
  omega (arith, c.floor_steps.ensures.1),
)

pub returns-else-bits-lt-SIGN : goal.returns-else-bits-lt-SIGN
returns-else-bits-lt-SIGN c = (
  ap (λ (r : ℕ). zero_step - r) c.ceiling_steps.ensures.0
      ∙ lower_raised c.args.unit c.args.x c.requires.fact_1 c.requires.fact_2 c.if-bits-lt-SIGN.false,
  omega arith,
)
