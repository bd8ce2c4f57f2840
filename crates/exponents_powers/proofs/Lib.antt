-- Why one double is scaled as its definition says, that it rounds nothing, and what scaling twice gives.
pub mod Laws
pub mod Fields
pub mod Exact
pub mod Twice
