-- What the call of the match answers and leaves.
pub mod Call
pub mod inner
