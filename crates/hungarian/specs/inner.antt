-- What the inner functions require and promise; only proofs use it.
pub mod Setting
pub mod Bounds
pub mod Between
pub mod SearchTree
pub mod Runs
pub mod Layout
