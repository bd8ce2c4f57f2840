-- Laws of the assembly, some of which other crates cite.
pub mod Order
pub mod Positions
mod Walk
pub mod Passes
mod Placing
pub mod Matrix
mod Examples
