-- Why the rounds meet their contracts.
pub mod Far
pub mod Rounds
