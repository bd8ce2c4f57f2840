-- Laws of a search's memory: what each function of one search does to the words, as a step of the definition.
pub mod Memory
pub mod Lists
pub mod Relaxing
pub mod Edges
pub mod Scans
pub mod Popping
pub mod Growths
pub mod Roots
pub mod Flips
pub mod Resets
pub mod Prepares
