-- Laws behind the check of a largest matching.
pub mod Berge
pub mod Rounds
pub mod Pairs
pub mod Entering
pub mod Queueing
pub mod Sweeps
pub mod Searching
pub mod Largest
pub mod Writing
pub mod Calls
pub mod Examples
