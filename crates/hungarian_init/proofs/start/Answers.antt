-- `hungarian_init::start`: what each phase leaves is what the next asks, by Begins.
use Rattle.std.proofs.Common.{◌∙◌, add-one, rules}
use Rattle.hungarian_init.proofs.Begins.{sound, claimable, improvable, begun_early, begun_late}
use Rattle.hungarian_init.proofs.start.Goals as goal

pub row_minima-requires : goal.row_minima-requires
row_minima-requires c = record {
  sound = sound _ c.requires.accepted (λ k h. c.type_inv.cost k);
  duals = c.requires.duals;
  words = c.requires.words;
}

pub claim_columns-num-requires : goal.claim_columns-num-requires
claim_columns-num-requires c =
    claimable _ c.requires.accepted (λ k h. c.type_inv.cost k) c.row_minima.ensures (c.row_minima.auto.work ∙ c.requires.words)

pub returns-then-num-n : goal.returns-then-num-n
returns-then-num-n c =
    begun_early c.row_minima.ensures c.claim_columns-num.ensures c.if-num-n.true c.zero_empty_rows.ensures (search rules)

pub prepare-requires-clause-fact_1 : goal.prepare-requires-clause-fact_1
prepare-requires-clause-fact_1 c = record {
  words = c.claim_columns-num.auto.work ∙ c.row_minima.auto.work ∙ c.requires.words;
  small = (sound _ c.requires.accepted (λ k h. c.type_inv.cost k)).few_columns;
}

pub prepare-requires-clause-fact_2 : goal.prepare-requires-clause-fact_2
prepare-requires-clause-fact_2 c =
    rw add-one (sound _ c.requires.accepted (λ k h. c.type_inv.cost k)).pointer_count

pub improve_assign-started-requires : goal.improve_assign-started-requires
improve_assign-started-requires c =
    improvable c.row_minima.ensures c.claim_columns-num.ensures (sound _ c.requires.accepted (λ k h. c.type_inv.cost k))
    (c.row_minima.auto.u ∙ c.requires.duals)
    (c.prepare.auto.work ∙ c.claim_columns-num.auto.work ∙ c.row_minima.auto.work ∙ c.requires.words)
    (c.prepare.auto.fwork ∙ c.requires.values) (search rules) c.prepare.ensures

pub returns : goal.returns
returns c =
    begun_late c.row_minima.ensures c.claim_columns-num.ensures _ c.if-num-n.false c.zero_empty_rows-2.ensures
    c.improve_assign-started.ensures
