-- Roots in blocks: what the functions promise each other.
pub mod inner
