-- Why the blocks meet their contracts.
pub mod Rows
