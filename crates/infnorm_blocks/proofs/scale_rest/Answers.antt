-- What is written is the factor of the maximum that stood there, by its root.
use Rattle.std.proofs.Common.{arith}
use Rattle.infnorm_factors.specs.Factors.{root}
use Rattle.infnorm_blocks.proofs.Rows.{row_next}
use Rattle.infnorm_blocks.proofs.scale_rest.Goals as goal

pub inv_sqrt_scale_guarded-requires : goal.inv_sqrt_scale_guarded-requires
unfolding root
inv_sqrt_scale_guarded-requires c = λ h. c.root.ensures

pub loop-m-preserved : goal.loop-m-preserved
loop-m-preserved c =
    row_next c.args.maxima.now c.loop-m.m-items c.loop-m.m-index c.loop-m.invariant (omega arith) (omega arith) c.inv_sqrt_scale_guarded.ensures
