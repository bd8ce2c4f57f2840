-- `hungarian_path::prepare`: two parts of the work slice have one value each, and so have the places and the distances, by Prepares.
use Rattle.hungarian_path.proofs.Prepares.{prepared}
use Rattle.hungarian_path.proofs.prepare.Goals as goal

pub returns : goal.returns
returns c =
    prepared _ _ _ _ c.requires.fact_1 c.fill.ensures c.fill-2.ensures _ (rw c.requires.fact_2 at c.fill-3.ensures) _
    (rw c.requires.fact_3 at c.fill-4.ensures)
