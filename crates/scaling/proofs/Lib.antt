-- What the proofs of the chooser cite, and which numbers it answers.
pub mod Choices
pub mod Theorems
pub mod Promises
