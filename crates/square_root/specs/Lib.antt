-- What the square root promises, and the parts that its functions go by.
pub mod Root
pub mod inner
