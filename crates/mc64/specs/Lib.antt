-- MC64 scaling of a symmetric matrix: what the call answers and leaves.
pub mod Call
pub mod inner
