-- The numbers of SPECIFICATION 3.4's table of refusals, and those that each call answers.
pub mod Refusal
pub mod Listed
pub mod Number
