-- What the other crates say of doubles: the number a double stands for, the constants of the port, the sums that are
-- exact or near.
pub mod Number
pub mod Constants
pub mod Functions
pub mod inner
