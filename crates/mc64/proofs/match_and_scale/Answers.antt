-- `match_and_scale`: the match of an accepted graph, and the factors of what it leaves, are what the definition says.
use Rattle.std.proofs.Common.{◌∙◌, arith}
use Rattle.mc64.proofs.Scaling.{count_small, few_matched, factors_ready, complete}
use Rattle.mc64.proofs.match_and_scale.Goals as goal

pub write_factors-requires : goal.write_factors-requires
write_factors-requires c =
    let l = c.requires.solvable in
    factors_ready c.requires (λ k h. c.type_inv.cost k) c.solve-found.ensures
    (c.solve-found.auto.perm ∙ l.perms) (c.solve-found.auto.u ∙ l.row_duals) (c.solve-found.auto.v ∙ l.column_duals)

pub overflow_cast-found : goal.overflow_cast-found
overflow_cast-found c =
    let s = count_small c.requires (λ k h. c.type_inv.cost k) c.solve-found.ensures in
    omega arith

pub answer-requires : goal.answer-requires
answer-requires c = few_matched c.requires (λ k h. c.type_inv.cost k) c.solve-found.ensures

pub returns : goal.returns
returns c =
    complete c.requires (λ k h. c.type_inv.cost k) c.solve-found.ensures c.answer.ensures c.write_factors.ensures
