-- Why the two calls meet their contracts.
pub mod Calls
pub mod Refusals
