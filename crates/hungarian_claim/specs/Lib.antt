-- What the code of phases 1 and 2 requires and promises, in terms of the match's definition.
pub mod inner
