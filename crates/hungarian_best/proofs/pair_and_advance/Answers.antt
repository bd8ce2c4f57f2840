-- `hungarian_best::pair_and_advance`: each store is one in its own region, by Links.
use Rattle.hungarian_best.proofs.Links.{linked}
use Rattle.hungarian_best.proofs.pair_and_advance.Goals as goal

pub returns : goal.returns
returns c = linked _ _ _ _ _ c.requires.fact_2 c.requires.fact_3
