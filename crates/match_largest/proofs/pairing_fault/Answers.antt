-- `pairing_fault` meets its contract: each return is the first fault of the chain.
use Rattle.std.proofs.Common.{◌∙◌}
use Rattle.match_largest.proofs.Searching.{held_is, by_pairs, by_rows, by_nothing}
use Rattle.match_largest.proofs.pairing_fault.Goals as goal

pub returns-then-not-enter_pairs-clause-result_value : goal.returns-then-not-enter_pairs-clause-result_value
returns-then-not-enter_pairs-clause-result_value c =
    by_pairs _ _ c.enter_pairs.ensures.result_value c.if-not-enter_pairs.true

pub returns-then-not-all_held-clause-result_value : goal.returns-then-not-all_held-clause-result_value
returns-then-not-all_held-clause-result_value c = by_rows _ _ c.enter_pairs.ensures.result_value c.if-not-enter_pairs.false
    (c.all_held.ensures ∙ held_is c.enter_pairs.ensures.entered c.search.ensures) c.if-not-all_held.true

pub returns-clause-result_value : goal.returns-clause-result_value
returns-clause-result_value c = by_nothing _ _ c.enter_pairs.ensures.result_value c.if-not-enter_pairs.false
    (c.all_held.ensures ∙ held_is c.enter_pairs.ensures.entered c.search.ensures) c.if-not-all_held.false
