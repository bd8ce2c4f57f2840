-- Laws of a tie file's graph that other crates cite.
pub mod KeptCount
pub mod GraphColumns
pub mod GraphCosts
pub mod GraphAccepted
mod Examples
