-- `ceiling_steps` meets its contract: with a step less one digit added, the shifted digits are the steps.
use Rattle.std.proofs.Common.{ℕ, ◌+◌, ◌-◌, ◌/◌, ◌^◌, ◌≤◌, sym, ap, ◌∙◌, subst, arith}
use lib.Pow.{pow_pos}
use Rattle.match_gap.specs.Rounding.{zero_step}
use Rattle.match_gap.proofs.Shifts.{steps_few, sum_fits, one_shifted}
use Rattle.match_gap.proofs.ceiling_steps.Goals as goal

pub overflow_sub-most : goal.overflow_sub-most
overflow_sub-most c = let k = c.shift_of-shift in omega (arith, one_shifted k.result k.ensures.small, pow_pos k.result)

pub overflow_add-result : goal.overflow_add-result
overflow_add-result c = let k = c.shift_of-shift in
    omega (arith, one_shifted k.result k.ensures.small, sum_fits c.digits_of.result k.result c.digits_of.ensures.1 k.ensures.small)

pub returns : goal.returns
returns c =
    let k = c.shift_of-shift in
    let e = ap (λ (x : ℕ). (c.digits_of.result + (x - 1)) / 2 ^ k.result) (one_shifted k.result k.ensures.small)
    ∙ ap (λ (d : ℕ). (d + (2 ^ k.result - 1)) / 2 ^ k.result) c.digits_of.ensures.0 ∙ sym k.ensures.up in
    (e, subst (λ (x : ℕ). x ≤ zero_step) (sym e) (steps_few c.args.bits c.args.unit c.requires).1)
