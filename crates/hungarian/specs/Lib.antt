-- The match of SPECIFICATION 5, as total functions on lists.
pub mod Loop
pub mod Graph
pub mod Test
pub mod Accepted
pub mod Counts
pub mod Init
pub mod Search
pub mod Match
pub mod Optimal
pub mod Work
pub mod Exact
pub mod inner
