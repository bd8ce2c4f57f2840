-- What each function promises that follows a search's answer, and what all searches do.
pub mod inner
