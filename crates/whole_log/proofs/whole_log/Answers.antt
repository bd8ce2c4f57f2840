-- Each way out is a case of the definition.
use Rattle.std.proofs.Common.{◌≡◌, ◌∙◌, Ok, ℤ, T, sym, ap, subst, rules}
use Rattle.std.proofs.lemmas.Int.{to_z-of_z}
use Rattle.std.specs.Int.{w32, cast_unsigned, cast_signed}
use Rattle.std.specs.Float.Ieee.{binary64, fits}
use Rattle.std.specs.Float.Ieee.Scale.{finite}
use Rattle.whole_log.specs.Log.{from_units}
use Rattle.whole_log.proofs.Theorems.{finite_no_nan, in_bits, found_answer, zero_answer, infinite_answer, promised, fits_i32}
use Rattle.whole_log.proofs.whole_log.Goals as goal
use Rattle.whole_log.proofs.whole_log.Goals.{Then-is_finite}

double : (c : Then-is_finite) → T (fits binary64 c.args.x)
double c = search rules

is_number : (c : Then-is_finite) → T (finite c.args.x)
is_number c = subst T (sym c.if-is_finite.true ∙ c.is_finite.ensures) tt

pub float_to_bits-bits : goal.float_to_bits-bits
float_to_bits-bits c = finite_no_nan c.args.x (is_number (goal.at.float_to_bits-bits c).Then-is_finite)

pub units_log-requires : goal.units_log-requires
units_log-requires c =
    let up = (goal.at.units_log-requires c).Then-is_finite in (c.if-bits-gt0.true, in_bits c.args.x (double up) (is_number up))

pub returns-then-bits-gt0 : goal.returns-then-bits-gt0
returns-then-bits-gt0 c =
    let up = (goal.at.returns-then-bits-gt0 c).Then-is_finite in
    let q = c.units_log.result in
    let kept : cast_signed w32 (cast_unsigned w32 c.from_units.result) ≡ from_units q =
    ap (λ (z : ℤ). cast_signed w32 (cast_unsigned w32 z)) c.from_units.ensures ∙ to_z-of_z w32 (from_units q) (fits_i32 q c.units_log.ensures.1) in
    promised c.args.x (double up)
    (ap Ok (kept ∙ ap from_units c.units_log.ensures.0) ∙ found_answer c.args.x (double up) (is_number up) c.if-bits-gt0.true)

pub returns-else-bits-gt0 : goal.returns-else-bits-gt0
returns-else-bits-gt0 c =
    let up = (goal.at.returns-else-bits-gt0 c).Then-is_finite in
    promised c.args.x (double up) (zero_answer c.args.x (double up) c.if-bits-gt0.false (is_number up))

pub returns-else-is_finite : goal.returns-else-is_finite
returns-else-is_finite c = promised c.args.x (search rules) (infinite_answer c.args.x (sym c.is_finite.ensures ∙ c.if-is_finite.false))
