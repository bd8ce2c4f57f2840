-- The laws behind the logarithm, leaves first; a function's own proof is in the folder of its name.
pub mod Squares
pub mod Loop
pub mod Theorems
pub mod Storing
pub mod Samples
