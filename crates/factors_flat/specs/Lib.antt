-- Log factors that leave unmatched indices flat: the factors, and what the call answers and leaves.
pub mod Flat
pub mod Call
pub mod ByNumber
pub mod inner
