-- The tie file of SPECIFICATION 11 by what it contains: no state, no order of reading.
pub mod Bytes
pub mod Lines
pub mod File
pub mod Refused
