-- The laws behind the square root, leaves first; a function's own proof is in the folder of its name.
pub mod Whole
pub mod Frame
pub mod Laws
pub mod Cases
pub mod Samples
