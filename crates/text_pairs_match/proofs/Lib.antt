-- The match of a match's pairs is those pairs.
pub mod AllMatched
pub mod PairLists
mod PairEntries
pub mod Theorems
