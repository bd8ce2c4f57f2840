-- `hungarian_init::prepare`: a region is written, and one of the doubles is filled.
use Rattle.hungarian_init.proofs.Preparing.{prepared}
use Rattle.hungarian_init.proofs.prepare.Goals as goal

pub returns : goal.returns
returns c =
    prepared _ _ _ _ _ _ _ _ c.requires.fact_1.words c.requires.fact_2 c.requires.fact_3
    c.copy.ensures c.fill.ensures
