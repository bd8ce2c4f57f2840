-- What the programs `ties` and `pairs` print.
pub mod Answer
pub mod inner
