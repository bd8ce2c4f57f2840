-- Why the call meets its contract.
pub mod Scaling
pub mod Calling
pub mod Theorems
pub mod Examples
