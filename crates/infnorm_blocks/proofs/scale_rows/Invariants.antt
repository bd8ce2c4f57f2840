-- `scale_rows`: the rows of the blocks before i have their factors, the others are as they were.
use Rattle.std.proofs.Common.{◌≡◌, ◌*◌, length}
use Rattle.infnorm_blocks.proofs.Rows.{Scaled}
use Rattle.infnorm_blocks.proofs.scale_rows.Given as goal

abbrev pub invariant-loop-i : goal.invariant-loop-i
invariant-loop-i l = record { room : length l.roots ≡ 16; scaled : Scaled l.initial.maxima l.maxima (l.i * 16) }
