-- Why a block's check meets its contract.
pub mod Check
pub mod Blocks
