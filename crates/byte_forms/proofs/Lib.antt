-- Laws of the calls on bytes.
pub mod ReadMatch
pub mod ByteMatches
pub mod ByteSamples
pub mod ByteFactors
pub mod Theorems
