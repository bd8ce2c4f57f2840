-- How large a matrix is that is scaled by the exponents of a complete match.
pub mod Bounds
