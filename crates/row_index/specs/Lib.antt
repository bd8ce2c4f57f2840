-- The row index of a cost graph: what it is, and what the call answers and leaves.
pub mod Index
pub mod Call
pub mod inner
