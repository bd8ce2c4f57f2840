-- Sparse matrices in compressed columns: the faults in the order of SPECIFICATION 3.5, what an accepted matrix is, what
-- the calls that assemble triplets answer and leave.
pub mod Pattern
pub mod Fault
pub mod Validate
pub mod Matrix
pub mod Columns
pub mod Assemble
