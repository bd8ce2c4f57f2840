-- Whether a pairing, complete or not, is a largest matching of a pattern: its tests and marks, what the call answers
-- and leaves, and what its inner functions require.
pub mod Marks
pub mod Call
pub mod inner
