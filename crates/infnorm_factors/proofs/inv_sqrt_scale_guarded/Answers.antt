-- The test and the operations are the definition's.
use Rattle.std.proofs.Common.{refl}
use lib.Ieee.{of_bits}
use Rattle.infnorm_factors.specs.Factors.{inv_sqrt_scale_guarded}
use Rattle.infnorm_factors.proofs.inv_sqrt_scale_guarded.Goals as goal

pub returns-then-m : goal.returns-then-m
unfolding inv_sqrt_scale_guarded of_bits
returns-then-m c = rw (c.if-m.true, c.guarded-new.ensures, c.requires c.if-m.true) refl

pub returns-else-m : goal.returns-else-m
unfolding inv_sqrt_scale_guarded
returns-else-m c = rw c.if-m.false refl
