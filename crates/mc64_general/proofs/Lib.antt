-- Why the general cost graph's code meets its contract.
pub mod Fits
pub mod Examples
pub mod Copying
pub mod Building
pub mod Calling
pub mod Theorems
