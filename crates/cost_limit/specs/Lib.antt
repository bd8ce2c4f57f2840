-- The range of one cost and of one log in a graph of n columns, and what a limit for either is.
pub mod Range
pub mod inner
