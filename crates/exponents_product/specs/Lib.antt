-- How near to the largest the product of a match is.
pub mod Product
