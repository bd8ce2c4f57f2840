-- Laws of the sheet file.
pub mod Fields
pub mod Lengths
pub mod Records
pub mod RoundTrip
pub mod Canonical
pub mod Rewritten
pub mod Theorems
pub mod Samples
