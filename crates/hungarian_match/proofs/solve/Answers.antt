-- `solve`: the last pairs are finished, and what is finished from them is the match, by Calls.
use Rattle.std.proofs.Common.{◌∙◌}
use Rattle.hungarian_match.proofs.Calls.{last_finishable, solved}
use Rattle.hungarian_match.proofs.solve.Goals as goal

pub finish_columns-requires-clause-fact_1 : goal.finish_columns-requires-clause-fact_1
finish_columns-requires-clause-fact_1 c =
    let found = c.pair_up-found in
    last_finishable _ c.requires.accepted (λ k h. c.type_inv.cost k) _ _ (found.auto.u ∙ c.requires.row_duals)
    (found.auto.work ∙ c.requires.words) found.ensures.jperm

pub returns : goal.returns
returns c =
    let found = c.pair_up-found in
    solved found.ensures c.finish_columns.ensures c.finish_rows.ensures (rw found.auto.work at c.fill.ensures)
    (rw found.auto.fwork at c.fill-2.ensures)
