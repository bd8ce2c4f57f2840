-- Laws of sparse matrices that other crates cite.
pub mod First
pub mod Alike
pub mod Entries
pub mod Columns
pub mod Accepted
pub mod Listed
pub mod Validities
pub mod Theorems
mod Rising
mod Triplets
mod Examples
