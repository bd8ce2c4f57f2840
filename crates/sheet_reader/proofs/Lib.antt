-- Why the readers meet their contracts.
pub mod Tested
pub mod Storing
pub mod Calls
pub mod Theorems
