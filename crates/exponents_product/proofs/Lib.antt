-- Why the product of a match is near the largest.
pub mod Products
pub mod Sizes
pub mod Theorems
pub mod Examples
