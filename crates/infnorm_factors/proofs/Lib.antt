-- Why the factor of a row meets its contract.
pub mod Theorems
pub mod Parts
