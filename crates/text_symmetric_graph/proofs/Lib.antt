-- Laws of a symmetric file's graph that other crates cite.
mod Triangle
pub mod Whole
pub mod Calls
pub mod Signs
mod Examples
