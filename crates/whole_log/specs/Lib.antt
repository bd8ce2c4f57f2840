-- What the logarithm promises, and what its loop keeps.
pub mod Log
pub mod Stored
pub mod inner
