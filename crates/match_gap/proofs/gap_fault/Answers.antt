-- `gap_fault` meets its contract: each return is the first fault of the chain.
use Rattle.std.proofs.Common.{◌≡◌, ◌∙◌, refl, rules}
use Rattle.refusal.specs.Number.{number, number_of}
use Rattle.refusal.proofs.Numbers.{number_ne_zero}
use Rattle.match_gap.proofs.Faults.{lengths_are, pointers_fit, by_digits, by_graph, lists, by_costs, by_pairs}
use Rattle.match_gap.proofs.gap_fault.Goals as goal

pub returns-then-digits-gt-MAX_DIGITS : goal.returns-then-digits-gt-MAX_DIGITS
returns-then-digits-gt-MAX_DIGITS c = by_digits _ _ _ _ c.if-digits-gt-MAX_DIGITS.true

pub graph_fault-requires : goal.graph_fault-requires
graph_fault-requires c = pointers_fit _ _ c.args.gap.now c.lengths_fit.ensures

pub returns-in_err-graph_fault : goal.returns-in_err-graph_fault
returns-in_err-graph_fault c =
    let same : number_of c.from_residual.result ≡ number c.in_err-graph_fault.field-0.0 = search rules in
    same ∙ by_graph _ _ _ _ c.if-digits-gt-MAX_DIGITS.false (lengths_are _ _ _ c.lengths_fit.ensures)
    c.in_err-graph_fault.ensures (number_ne_zero _)

pub returns-then-not-all_in_steps : goal.returns-then-not-all_in_steps
returns-then-not-all_in_steps c =
    by_costs _ _ _ _ c.if-digits-gt-MAX_DIGITS.false (lengths_are _ _ _ c.lengths_fit.ensures) c.in_ok-graph_fault.ensures refl
    c.all_in_steps.ensures c.if-not-all_in_steps.true

pub pairs_fault-requires-clause-accepted_pattern_1 : goal.pairs_fault-requires-clause-accepted_pattern_1
pairs_fault-requires-clause-accepted_pattern_1 c =
    (lists c.args.digits _ _ c.args.gap.now c.if-digits-gt-MAX_DIGITS.false (lengths_are _ _ _ c.lengths_fit.ensures)
    c.in_ok-graph_fault.ensures refl).pattern

pub pairs_fault-requires-clause-accepted_pattern_2 : goal.pairs_fault-requires-clause-accepted_pattern_2
pairs_fault-requires-clause-accepted_pattern_2 c =
    (lists c.args.digits _ _ c.args.gap.now c.if-digits-gt-MAX_DIGITS.false (lengths_are _ _ _ c.lengths_fit.ensures)
    c.in_ok-graph_fault.ensures refl).rows

pub returns : goal.returns
returns c =
    by_pairs _ _ _ _ c.if-digits-gt-MAX_DIGITS.false (lengths_are _ _ _ c.lengths_fit.ensures) c.in_ok-graph_fault.ensures refl
    c.all_in_steps.ensures c.if-not-all_in_steps.false c.pairs_fault.ensures
