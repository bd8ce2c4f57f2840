-- `scale_rest`: the rows before the index have their factors, the others are as they were.
use Rattle.infnorm_blocks.proofs.Rows.{Scaled}
use Rattle.infnorm_blocks.proofs.scale_rest.Given as goal

abbrev pub invariant-loop-m : goal.invariant-loop-m
invariant-loop-m l = Scaled l.initial.m-items l.m-items l.m-index
