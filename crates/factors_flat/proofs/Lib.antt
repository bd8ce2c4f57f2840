-- Why the calls meet their contracts, and what a caller may rely on.
pub mod Sums
pub mod Ends
pub mod Bounds
pub mod Calling
pub mod Theorems
pub mod Numbers
pub mod Examples
