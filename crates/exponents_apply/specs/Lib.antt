-- A general matrix scaled in place by powers of two: what the call answers and leaves.
pub mod Apply
pub mod Sums
pub mod inner
