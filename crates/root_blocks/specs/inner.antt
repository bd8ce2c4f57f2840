-- Blocks of roots.
pub mod Blocks
