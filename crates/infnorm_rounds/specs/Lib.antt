-- The rounds: what the functions of one round promise each other.
pub mod inner
