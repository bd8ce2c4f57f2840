-- Laws of doubles that other crates cite.
pub mod Scale
pub mod Order
pub mod Sums
pub mod Integers
pub mod WholeNumbers
pub mod Functions
pub mod Constants
pub mod Bits
pub mod Normalised
pub mod Half
pub mod Squares
