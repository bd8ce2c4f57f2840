-- Laws of the tie file that other crates cite.
pub mod Accepted
pub mod Filling
pub mod Theorems
mod Reaching
pub mod Words
mod Digits
mod Names
pub mod Fields
mod Banners
pub mod Entries
mod Taken
mod Runs
mod Examples
