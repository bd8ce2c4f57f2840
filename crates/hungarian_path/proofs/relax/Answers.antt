-- `hungarian_path::relax`: its stores and the heap's step are laws of Relaxing.
use Rattle.hungarian_path.proofs.Relaxing.{code_ready, code_done}
use Rattle.hungarian_path.proofs.relax.Goals as goal

pub update-requires-clause-fact_1 : goal.update-requires-clause-fact_1
update-requires-clause-fact_1 c =
    let noted = c.touch_row-next.ensures in
    (code_ready _ _ _ _ _ _ _ c.args.x _ _ c.requires _ _ noted.words noted.places c.touch_row-next.auto.work).0

pub update-requires-clause-fact_4 : goal.update-requires-clause-fact_4
update-requires-clause-fact_4 c =
    let noted = c.touch_row-next.ensures in
    (code_ready _ _ _ _ _ _ _ c.args.x _ _ c.requires _ _ noted.words noted.places c.touch_row-next.auto.work).3

pub returns : goal.returns
returns c =
    let noted = c.touch_row-next.ensures in
    code_done _ _ _ _ _ _ _ _ _ _ c.requires _ _ noted.words noted.places c.touch_row-next.auto.work _ _ _ _
    noted.answer c.update.ensures
