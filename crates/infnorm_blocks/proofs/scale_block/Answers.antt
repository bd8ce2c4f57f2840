-- What is written is the factor of the maximum that stood there, by its root.
use Rattle.std.proofs.Common.{arith}
use Rattle.infnorm_blocks.proofs.Rows.{maximum_there, row_next, root_there}
use Rattle.infnorm_blocks.proofs.scale_block.Goals as goal

pub inv_sqrt_scale_guarded-requires : goal.inv_sqrt_scale_guarded-requires
inv_sqrt_scale_guarded-requires c =
    root_there c.requires.roots c.loop-i.i (omega arith) _ (maximum_there c.args.maxima.now c.loop-i.maxima c.loop-i.i c.loop-i.invariant (omega arith))

pub loop-i-preserved : goal.loop-i-preserved
loop-i-preserved c =
    row_next c.args.maxima.now c.loop-i.maxima c.loop-i.i c.loop-i.invariant (omega arith) (omega arith) c.inv_sqrt_scale_guarded.ensures
