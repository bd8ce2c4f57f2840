-- Why the calls meet their contracts.
pub mod Loops
pub mod Outcomes
pub mod Theorems
pub mod Examples
pub mod Exact
