-- The cost graph of a symmetric matrix: the graph's columns, and what the call answers and leaves.
pub mod Graph
pub mod Call
pub mod inner
