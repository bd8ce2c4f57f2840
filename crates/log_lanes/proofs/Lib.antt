-- Why the lanes meet their contracts.
pub mod Lanes
