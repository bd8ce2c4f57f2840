-- `hungarian_match`: a fault is refused with nothing changed, an accepted graph is solved, by Outcomes.
use Rattle.std.proofs.Common.{sym, ◌∙◌}
use Rattle.std.proofs.lemmas.Result.{err_from_is_err_and}
use Rattle.refusal.proofs.Numbers.{number_ne_zero}
use Rattle.hungarian_match.proofs.Calls.{accepted_lengths}
use Rattle.hungarian_match.proofs.Outcomes.{pointers_fit, fault_is, in_list, refuses, refuses_by, not_matched, finishes, answered, matches}
use Rattle.hungarian_match.proofs.Outcomes.{promised, counted}
use Rattle.hungarian_match.proofs.hungarian_match.Goals as goal

pub graph_fault-requires : goal.graph_fault-requires
graph_fault-requires c = λ t. pointers_fit _ _ (sym c.lengths_fit-lengths.ensures ∙ t)

pub returns-in_err-graph_fault : goal.returns-in_err-graph_fault
returns-in_err-graph_fault c =
    let p = err_from_is_err_and c.from_residual.result c.from_residual.ensures.1 in
    let e = fault_is _ _ c.in_err-graph_fault.ensures c.lengths_fit-lengths.ensures in
    rw (p.1, p.2) (record {
      outcome = refuses _ _ e (number_ne_zero _);
      answer = refuses_by _ _ e (number_ne_zero _);
      matching = λ m q. absurd (not_matched q);
      optimal = λ m q w. absurd (not_matched q);
      counts = λ m q. absurd (not_matched q);
      number = in_list _ _ e;
    })

pub solve-requires : goal.solve-requires
solve-requires c =
    accepted_lengths _ _ (sym (fault_is _ _ c.in_ok-graph_fault.ensures c.lengths_fit-lengths.ensures))

pub returns : goal.returns
returns c =
    let e = fault_is _ _ c.in_ok-graph_fault.ensures c.lengths_fit-lengths.ensures in
    let found = c.solve.ensures in
    record {
      outcome = finishes _ _ (sym e) (λ k h. c.type_inv.cost k) found;
      answer = answered _ _ (sym e) (λ k h. c.type_inv.cost k) found;
      matching = matches _ _ (sym e) (λ k h. c.type_inv.cost k) found;
      optimal = promised _ _ (sym e) (λ k h. c.type_inv.cost k) found;
      counts = counted _ _ (sym e) (λ k h. c.type_inv.cost k) found;
      number = in_list _ _ e;
    }
