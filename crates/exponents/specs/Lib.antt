-- The exponents of a match's factors: one factor's, and what the call answers and leaves.
pub mod Exponent
pub mod Call
pub mod inner
