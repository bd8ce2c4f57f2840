-- What the reader makes of the text of a match.
mod Parts
mod Numerals
mod Lines
mod Columns
mod Lengths
mod Apart
pub mod Theorems
