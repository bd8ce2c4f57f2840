-- Why the call meets its contract.
pub mod Tests
pub mod Finishing
pub mod Calls
pub mod Outcomes
pub mod Callers
pub mod LocalArrays
