-- Why the identity factors meet their contract.
pub mod Filled
