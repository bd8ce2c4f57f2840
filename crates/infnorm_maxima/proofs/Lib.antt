-- Why the maxima meet their contracts, and the definitions on small matrices.
pub mod Walks
pub mod Examples
