-- The loops of phases 1 and 2 are the definition's steps: a record for each loop, with laws for its start, a turn and its end.
pub mod Words
pub mod Minima
pub mod Claims
