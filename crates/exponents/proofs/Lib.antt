-- Why one factor's exponent is found, and what the call answers and leaves.
pub mod Moved
pub mod Calling
pub mod Bounds
