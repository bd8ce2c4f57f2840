-- Lists that loops write from the front, lists put together of parts, and what a call leaves.
pub mod Lists
pub mod Outcome
pub mod inner
