-- Why the row index's code meets its contract, and what follows for callers.
mod Examples
pub mod Placing
pub mod Theorems
pub mod Calling
