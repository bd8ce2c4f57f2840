-- What the two steps of phase 3 promise.
pub mod inner
