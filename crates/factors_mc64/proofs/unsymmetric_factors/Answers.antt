-- `unsymmetric_factors`: a fault is refused with nothing changed, an accepted call writes both sides.
use Rattle.std.proofs.Common.{◌≡◌, sym, ap, ◌∙◌, rules}
use Rattle.std.specs.Prelude.{Err}
use Rattle.refusal.proofs.Numbers.{number_ne_zero}
use Rattle.factors_mc64.specs.Calls.{sizes}
use Rattle.factors_mc64.proofs.Outcomes.{sides_refuse, side_room, sides_apply}
use Rattle.factors_mc64.proofs.Theorems.{sides_number}
use Rattle.factors_mc64.proofs.unsymmetric_factors.Goals as goal

pub returns-in_err-size_fault : goal.returns-in_err-size_fault
returns-in_err-size_fault c =
    let same : c.from_residual.result ≡ Err c.in_err-size_fault.field-0.0 = search rules in
    rw same (sides_number _ _ _ _ _ _
    (sides_refuse _ _ _ _ _ _ c.in_err-size_fault.ensures c.side_lengths-lengths.ensures (number_ne_zero _)))

pub write_sides-requires : goal.write_sides-requires
write_sides-requires c =
    side_room _ _ _ _ _ _ (sym (c.in_ok-size_fault.ensures ∙ ap (sizes _) c.side_lengths-lengths.ensures))

pub returns : goal.returns
returns c =
    let fits = sym (c.in_ok-size_fault.ensures ∙ ap (sizes _) c.side_lengths-lengths.ensures) in
    let sides = c.write_sides.ensures in
    sides_number _ _ _ _ _ _ (sides_apply _ _ _ _ _ _ fits sides.rows_after sides.columns_after)
