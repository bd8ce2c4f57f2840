-- Theorems on sums and matchings that other crates cite.
pub mod Updated
pub mod Sums
pub mod Matchings
pub mod Pairings
pub mod Flip
pub mod Mirror
pub mod Exchange
pub mod Example
