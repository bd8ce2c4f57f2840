-- The graph of a match's pairs.
pub mod PairGraph
