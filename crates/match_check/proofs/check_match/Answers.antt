-- `check_match` meets its contract: each answer is the first fault's, and the other clauses follow of any answer.
use Rattle.std.proofs.Common.{◌≡◌, refl, sym, ◌∙◌, rules}
use Rattle.refusal.specs.Number.{number, number_of}
use Rattle.refusal.proofs.Numbers.{number_ne_zero}
use Rattle.match_check.proofs.Calling.{fitting, ready, passed_graph, by_graph, by_cost, by_claim, promises}
use Rattle.match_check.proofs.check_match.Goals as goal

pub graph_fault-requires : goal.graph_fault-requires
graph_fault-requires c = λ t. (fitting _ _ (sym c.lengths_fit-lengths.ensures ∙ t)).pointers

pub returns-in_err-graph_fault : goal.returns-in_err-graph_fault
returns-in_err-graph_fault c =
    let same : number_of c.from_residual.result ≡ number c.in_err-graph_fault.field-0.0 = search rules in
    rw same (promises _ _ (λ k h. c.type_inv.cost k) (record { rows = c.type_inv.u; columns = c.type_inv.v })
    (by_graph _ _ c.in_err-graph_fault.ensures c.lengths_fit-lengths.ensures (number_ne_zero _)))

pub returns-then-not-small_wholes : goal.returns-then-not-small_wholes
returns-then-not-small_wholes c =
    promises _ _ (λ k h. c.type_inv.cost k) (record { rows = c.type_inv.u; columns = c.type_inv.v })
    (by_cost _ _ c.in_ok-graph_fault.ensures c.lengths_fit-lengths.ensures refl (λ k h. c.type_inv.cost k)
    c.small_wholes.ensures c.if-not-small_wholes.true)

pub claim_fault-requires : goal.claim_fault-requires
claim_fault-requires c = ready _ _ (passed_graph _ _ c.in_ok-graph_fault.ensures c.lengths_fit-lengths.ensures refl)

pub returns : goal.returns
returns c =
    promises _ _ (λ k h. c.type_inv.cost k) (record { rows = c.type_inv.u; columns = c.type_inv.v })
    (by_claim _ _ c.in_ok-graph_fault.ensures c.lengths_fit-lengths.ensures refl (λ k h. c.type_inv.cost k)
    c.small_wholes.ensures c.if-not-small_wholes.false c.claim_fault.ensures)
