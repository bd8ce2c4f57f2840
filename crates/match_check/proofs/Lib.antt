-- Laws of the tests, what an accepted match is, and what the call answers.
pub mod Every
pub mod Pairing
pub mod Marks
pub mod Columns
pub mod Wholes
pub mod Certificate
pub mod Ours
pub mod Faults
pub mod Calling
