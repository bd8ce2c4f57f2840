-- Laws behind the calls of the C interface.
pub mod Counted
pub mod MatchResults
pub mod CheckResults
pub mod LargestResults
pub mod FactorResults
pub mod ByteResults
pub mod FactorSamples
pub mod ScalingResults
pub mod SheetResults
pub mod Theorems
