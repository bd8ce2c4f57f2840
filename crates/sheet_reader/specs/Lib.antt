-- What the readers answer and leave, and what their steps leave each other.
pub mod Call
pub mod inner
