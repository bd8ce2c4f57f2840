-- Why the functions meet their contracts, and that the match accepts the costs.
pub mod Loops
pub mod Accepted
pub mod Kept
pub mod Agree
pub mod Graphs
pub mod Entries
pub mod Whole
pub mod Calls
pub mod Examples
pub mod Words
