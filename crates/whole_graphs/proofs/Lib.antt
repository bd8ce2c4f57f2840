-- The laws behind graphs from whole-number logarithms.
pub mod Finite
pub mod Logs
pub mod Theorems
pub mod Examples
