-- Samples 1 to 11 and 13 to 15 of SPECIFICATION 13.
pub mod Table
