-- What an accepted call is, what the call leaves, and what scaling twice gives.
pub mod Accepted
pub mod Writing
pub mod Calling
pub mod Theorems
pub mod Examples
