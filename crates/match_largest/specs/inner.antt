-- What the inner functions require; only proofs use it.
pub mod Sweeps
