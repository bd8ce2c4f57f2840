-- Matchings of a bipartite graph: what they are, and how an algorithm writes one down.
pub mod Sum
pub mod Matching
pub mod Pairing
pub mod Match
