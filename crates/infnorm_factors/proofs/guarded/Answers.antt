-- The test is the definition's.
use Rattle.std.proofs.Common.{refl}
use Rattle.infnorm_factors.specs.Factors.{guarded}
use Rattle.infnorm_factors.proofs.guarded.Goals as goal

pub returns-then-fine-new : goal.returns-then-fine-new
unfolding guarded
returns-then-fine-new c = rw (← c.is_finite-fine.ensures, c.if-fine-new.true) refl

pub returns-else-fine-new : goal.returns-else-fine-new
unfolding guarded
returns-else-fine-new c = rw (← c.is_finite-fine.ensures, c.if-fine-new.false) refl
