-- Identity factors.
pub mod Identity
