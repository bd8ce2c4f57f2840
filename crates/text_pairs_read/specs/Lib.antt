-- The pairs of a match as the entries of a pattern file.
pub mod Pairs
