-- `match_gap` meets its contract: it refuses by the first fault, or writes the sum; the clauses follow of any answer.
use Rattle.std.proofs.Common.{◌≡◌, ℕ, [], ◌∷◌, refl, sym, ap, ◌∙◌, rules, arith}
use Rattle.refusal.specs.Number.{number, number_of}
use Rattle.refusal.proofs.Numbers.{number_ne_zero}
use Rattle.slices.proofs.Lists.{only}
use Rattle.match_gap.proofs.Faults.{passed}
use Rattle.match_gap.proofs.Calls.{measurable, all_promised, refused, found, steps_are}
use Rattle.match_gap.proofs.match_gap.Goals as goal

pub returns-in_err-gap_fault : goal.returns-in_err-gap_fault
returns-in_err-gap_fault c =
    let same : number_of c.from_residual.result ≡ number c.in_err-gap_fault.field-0.0 = search rules in
    rw same (all_promised _ _ _ _ c.type_inv.cost (record { rows = c.type_inv.u; columns = c.type_inv.v })
    (refused _ _ _ _ c.in_err-gap_fault.ensures (number_ne_zero _)))

pub overflow_sub-unit : goal.overflow_sub-unit
overflow_sub-unit c = omega (arith, (passed _ _ _ _ (sym c.in_ok-gap_fault.ensures)).digits_few)

pub sum_columns-requires : goal.sum_columns-requires
sum_columns-requires c = measurable _ _ _ _ c.type_inv.cost (record { rows = c.type_inv.u; columns = c.type_inv.v })
    (sym c.in_ok-gap_fault.ensures)

pub bounds-gap-0 : goal.bounds-gap-0
bounds-gap-0 c = omega (arith, (passed _ _ _ _ (sym c.in_ok-gap_fault.ensures)).room)

pub returns : goal.returns
returns c =
    all_promised _ _ _ _ c.type_inv.cost (record { rows = c.type_inv.u; columns = c.type_inv.v })
    (found _ _ _ _ c.in_ok-gap_fault.ensures refl
    (only c.args.gap.now c.sum_columns.result (passed _ _ _ _ (sym c.in_ok-gap_fault.ensures)).room
    ∙ ap (λ (x : ℕ). x ∷ []) (c.sum_columns.ensures ∙ steps_are c.args.digits _ _)))
