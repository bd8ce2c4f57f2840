-- Why the cost graph's code meets its contract.
pub mod Examples
pub mod Places
pub mod Counting
pub mod Placing
pub mod Normalising
pub mod Building
pub mod Calling
pub mod Theorems
