-- One round, block by block.
pub mod Blocks
