-- `floor_steps` meets its contract: the shifted digits are the steps.
use Rattle.std.proofs.Common.{ℕ, ◌/◌, ◌^◌, ◌≤◌, sym, ap, ◌∙◌, subst}
use Rattle.match_gap.specs.Rounding.{zero_step}
use Rattle.match_gap.proofs.Shifts.{steps_few}
use Rattle.match_gap.proofs.floor_steps.Goals as goal

pub returns : goal.returns
returns c =
    let e = ap (λ (d : ℕ). d / 2 ^ c.shift_of.result) c.digits_of.ensures.0 ∙ sym c.shift_of.ensures.down in
    (e, subst (λ (x : ℕ). x ≤ zero_step) (sym e) (steps_few c.args.bits c.args.unit c.requires).0)
