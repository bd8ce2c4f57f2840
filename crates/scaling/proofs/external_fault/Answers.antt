-- The fault of the sizes, or at last the choice's.
use Rattle.refusal.specs.Refusal.{external_choice}
use Rattle.scaling.specs.Choice.{external_fault}
use Rattle.scaling.proofs.Choices.{refused_first, refused_else}
use Rattle.scaling.proofs.external_fault.Goals as goal

pub returns-in-Err : goal.returns-in-Err
unfolding external_fault
returns-in-Err c = refused_first _ external_choice c.in-Err.ensures

pub returns-in-Ok : goal.returns-in-Ok
unfolding external_fault
returns-in-Ok c = refused_else external_choice c.in-Ok.ensures
