-- When a program has its input, and what it tells of it.
pub mod Input
pub mod Told
