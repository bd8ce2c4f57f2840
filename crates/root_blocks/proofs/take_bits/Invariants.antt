-- The bits of the first i numbers are there.
use Rattle.root_blocks.specs.inner.Blocks.{Taken}
use Rattle.root_blocks.proofs.take_bits.Given as goal

abbrev pub invariant-loop-i : goal.invariant-loop-i
invariant-loop-i l = Taken l.numbers l.from l.bits l.i
