-- The reader's definition is exactly what the specs say.
pub mod Bytes
pub mod Lines
mod Pairs
mod Fronts
mod Refusals
mod Total
pub mod Theorems
