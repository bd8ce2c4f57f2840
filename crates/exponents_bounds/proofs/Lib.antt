-- Why the exponents of a complete match bound the magnitudes.
pub mod Numbers
pub mod AnyColumns
pub mod General
pub mod Symmetric
pub mod BothTriangles
pub mod Theorems
pub mod Examples
