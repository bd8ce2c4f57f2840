-- How memory holds a search, and what each function of one search promises.
pub mod inner
