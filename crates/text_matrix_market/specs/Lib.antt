-- The tie file of SPECIFICATION 11: its lines, words and numbers, and the file that it holds or its refusal.
pub mod Text
pub mod Numbers
pub mod Banner
pub mod File
pub mod inner
