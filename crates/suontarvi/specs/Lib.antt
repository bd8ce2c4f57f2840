-- What the calls of the C interface answer and leave.
pub mod Numbered
pub mod Matrices
pub mod Match
pub mod Check
pub mod Largest
pub mod Graphs
pub mod Factors
pub mod Scaling
pub mod Sheets
pub mod Version
