-- The limits of a call, and what stands for none.
pub mod Limits
