-- What the code of phase 3 and of the whole start requires and promises, in terms of the match's definition.
pub mod inner
