-- Triplets that come by position: what the functions promise each other.
pub mod inner
