-- How far a complete matching can be from least total, for any costs and duals: numbers in steps, the call and its
-- promise, and what its inner functions require.
pub mod Rounding
pub mod Gap
pub mod Call
pub mod inner
