-- Log factors: what both calls answer and leave.
pub mod Factors
pub mod Calls
pub mod inner
