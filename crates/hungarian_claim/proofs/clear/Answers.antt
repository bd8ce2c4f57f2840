-- `hungarian_claim::clear`: three regions in a row have one value.
use Rattle.hungarian_claim.proofs.Minima.{cleared}
use Rattle.hungarian_claim.proofs.clear.Goals as goal

pub returns : goal.returns
returns c = cleared _ _ _ _ _ c.requires.fact_2 c.requires.fact_1.words c.fill.ensures c.fill-2.ensures
