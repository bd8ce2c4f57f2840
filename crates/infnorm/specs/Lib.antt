-- Inf-norm factors: what the two calls answer and leave.
pub mod Call
