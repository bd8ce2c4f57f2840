-- The check of a match that others made: its tests, what the call answers, and what an accepted match is.
pub mod Check
pub mod Call
pub mod inner
