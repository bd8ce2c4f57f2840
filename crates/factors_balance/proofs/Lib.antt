-- The theorem on the log factors of a symmetric matrix with whole logs.
pub mod Entries
pub mod Costs
pub mod Theorems
