-- What the inner functions require and promise; only proofs use it.
pub mod Steps
