-- The result of the reads.
pub mod Inputs
