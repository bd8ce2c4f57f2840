-- `scale_block`: the rows before i have their factors, the others are as they were.
use Rattle.infnorm_blocks.proofs.Rows.{Scaled}
use Rattle.infnorm_blocks.proofs.scale_block.Given as goal

abbrev pub invariant-loop-i : goal.invariant-loop-i
invariant-loop-i l = Scaled l.initial.maxima l.maxima l.i
