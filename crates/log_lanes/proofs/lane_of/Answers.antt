-- A value with a logarithm starts with its own digits, any other ends past all logarithms.
use Rattle.std.proofs.Common.{◌-◌, ◌/◌, ◌^◌, ◌∙◌, Ok, T, sym, ap, subst, rules, arith}
use Rattle.std.specs.Float.Ieee.{binary64, fits}
use Rattle.std.specs.Float.Ieee.Scale.{finite}
use Rattle.whole_log.specs.Log.{from_units}
use Rattle.whole_log.proofs.Theorems.{finite_no_nan, in_bits, found_answer, zero_answer, infinite_answer, log_digits}
use Rattle.log_lanes.specs.inner.Lanes.{Ready}
use Rattle.log_lanes.proofs.Lanes.{lane_word, none_word}
use Rattle.log_lanes.proofs.lane_of.Goals as goal
use Rattle.log_lanes.proofs.lane_of.Goals.{Then-is_finite}

double : (c : Then-is_finite) → T (fits binary64 c.args.x)
double c = search rules

is_number : (c : Then-is_finite) → T (finite c.args.x)
is_number c = subst T (sym c.if-is_finite.true ∙ c.is_finite.ensures) tt

none : Ready (2 ^ 31) 2098
none = record { full = omega arith; short = omega arith; room = omega arith }

pub float_to_bits-bits : goal.float_to_bits-bits
float_to_bits-bits c = finite_no_nan c.args.x (is_number (goal.at.float_to_bits-bits c).Then-is_finite)

pub full_digits-digits-requires : goal.full_digits-digits-requires
full_digits-digits-requires c =
    let up = (goal.at.full_digits-digits-requires c).Then-is_finite in
    (c.if-bits-gt0.true, in_bits c.args.x (double up) (is_number up))

pub returns-then-bits-gt0 : goal.returns-then-bits-gt0
returns-then-bits-gt0 c =
    let up = (goal.at.returns-then-bits-gt0 c).Then-is_finite in
    let s = c.full_digits-digits.ensures in
    let lane = c.full_digits-digits.result in
    let r : Ready (lane.significand / 2 ^ 21) (lane.exponent - 1022) =
    record { full = omega (arith, s); short = omega (arith, s); room = omega (arith, s) } in (
      r,
      lane_word _ _ r.full r.short (omega (arith, s))
          ∙ ap (λ q. Ok (from_units q)) (log_digits _ _ _ s)
          ∙ found_answer c.args.x (double up) (is_number up) c.if-bits-gt0.true,
    )

pub returns-else-bits-gt0 : goal.returns-else-bits-gt0
returns-else-bits-gt0 c =
    let up = (goal.at.returns-else-bits-gt0 c).Then-is_finite in
    (none, none_word ∙ zero_answer c.args.x (double up) c.if-bits-gt0.false (is_number up))

pub returns-else-is_finite : goal.returns-else-is_finite
returns-else-is_finite c = (none, none_word ∙ infinite_answer c.args.x (sym c.is_finite.ensures ∙ c.if-is_finite.false))
