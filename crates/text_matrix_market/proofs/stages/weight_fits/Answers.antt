-- `stages::weight_fits` meets its contract: the kinds that have costs.
use Rattle.std.proofs.Common.{inl, inr}
use Rattle.text_matrix_market.proofs.Entries.{general_fits}
use Rattle.text_matrix_market.proofs.stages.weight_fits.Goals as goal

pub returns-in-General : goal.returns-in-General
returns-in-General c =
    elim c.in-General.is [
      | inl e ↦ rw e (general_fits _ _ c.requires)
      | inr e ↦ rw e (general_fits _ _ c.requires)
    ]
