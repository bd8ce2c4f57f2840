-- Logarithms in lanes.
pub mod inner
