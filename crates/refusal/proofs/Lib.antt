-- Laws of the numbers of refusals, which the proofs of calls cite.
pub mod Numbers
