-- `compute_symmetric`: a refusal changes nothing, and what the building leaves is matched and scaled.
use Rattle.std.proofs.Common.{◌≡◌, sym, rules}
use lib.Seq.{length-take-le}
use Rattle.std.specs.Prelude.{Err}
use Rattle.mc64.proofs.Calling.{lengths_refused, building_refused, rows_room, cost_room_lem, ready, complete, promised}
use Rattle.mc64.proofs.compute_symmetric.Goals as goal

pub returns-then-not-fit : goal.returns-then-not-fit
returns-then-not-fit c =
    promised _ _ _ (λ k h. c.type_inv.logs k)
    (lengths_refused _ _ _ _ _ c.rest_fits-fit.ensures c.if-not-fit.true c.length_fault.ensures)

pub returns-in_err-kept : goal.returns-in_err-kept
returns-in_err-kept c =
    let same : c.from_residual.result ≡ Err c.in_err-kept.field-0.0 = search rules in
    rw same (promised _ _ _ (λ k h. c.type_inv.logs k)
    (building_refused _ _ _ _ _ c.in_err-kept.ensures.outcome c.rest_fits-fit.ensures c.if-not-fit.false))

pub slice_bounds-match_and_scale-end : goal.slice_bounds-match_and_scale-end
slice_bounds-match_and_scale-end c = rows_room _ _ _ c.in_ok-kept.ensures.outcome (λ k h. c.type_inv.logs k)

pub slice_bounds-match_and_scale-end-2 : goal.slice_bounds-match_and_scale-end-2
slice_bounds-match_and_scale-end-2 c =
    sym (length-take-le _ _ (rows_room _ _ _ c.in_ok-kept.ensures.outcome (λ k h. c.type_inv.logs k)))

pub slice_bounds-match_and_scale-end-3 : goal.slice_bounds-match_and_scale-end-3
slice_bounds-match_and_scale-end-3 c = cost_room_lem _ _ _ c.in_ok-kept.ensures.outcome (λ k h. c.type_inv.logs k)

pub slice_bounds-match_and_scale-end-4 : goal.slice_bounds-match_and_scale-end-4
slice_bounds-match_and_scale-end-4 c =
    sym (length-take-le _ _ (cost_room_lem _ _ _ c.in_ok-kept.ensures.outcome (λ k h. c.type_inv.logs k)))

pub match_and_scale-scaled-requires : goal.match_and_scale-scaled-requires
match_and_scale-scaled-requires c =
    ready _ _ _ c.in_ok-kept.ensures.outcome (λ k h. c.type_inv.logs k) _ _ c.rest_fits-fit.ensures c.if-not-fit.false

pub returns : goal.returns
returns c =
    promised _ _ _ (λ k h. c.type_inv.logs k)
    (complete _ _ _ c.in_ok-kept.ensures.outcome (λ k h. c.type_inv.logs k) _ _ c.rest_fits-fit.ensures
    c.if-not-fit.false c.match_and_scale-scaled.ensures)
