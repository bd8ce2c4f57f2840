-- Why the writer's functions meet their contracts.
pub mod Writing
pub mod Calls
pub mod Theorems
