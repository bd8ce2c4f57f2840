-- What is proved of the gap.
pub mod Shifts
pub mod Places
pub mod Most
pub mod Near
pub mod Signs
pub mod Limits
pub mod Scanning
pub mod Exact
pub mod Summing
pub mod Faults
pub mod Calls
