-- What the functions ask and promise: it serves the proofs alone.
pub mod Lanes
