-- Laws behind the functions that write the texts.
pub mod Digits
pub mod Writes
pub mod Wholes
pub mod Lines
pub mod Fit
pub mod Pairs
