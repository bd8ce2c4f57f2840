-- The test and the operations are the definition's.
use Rattle.std.proofs.Common.{refl}
use Rattle.infnorm_factors.specs.Factors.{new_factor}
use Rattle.infnorm_factors.proofs.new_factor.Goals as goal

pub returns-then-m : goal.returns-then-m
unfolding new_factor
returns-then-m c = rw (c.if-m.true, c.guarded-new.ensures, c.requires c.if-m.true) refl

pub returns-else-m : goal.returns-else-m
unfolding new_factor
returns-else-m c = rw c.if-m.false refl
