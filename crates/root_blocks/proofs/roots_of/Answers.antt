-- The numbers' bits and the roots of the bits give the numbers' roots.
use Rattle.root_blocks.proofs.Blocks.{lanes}
use Rattle.root_blocks.proofs.roots_of.Goals as goal

pub returns-then-try_block-ne0 : goal.returns-then-try_block-ne0
returns-then-try_block-ne0 c = lanes c.take_bits.ensures c.one_by_one.ensures

pub returns-else-try_block-ne0 : goal.returns-else-try_block-ne0
returns-else-try_block-ne0 c = lanes c.take_bits.ensures (c.try_block.ensures c.if-try_block-ne0.false)
