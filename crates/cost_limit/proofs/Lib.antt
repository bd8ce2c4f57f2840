-- Laws of the range of costs and logs that other crates cite.
pub mod Limits
pub mod Digits
pub mod Range
pub mod Samples
