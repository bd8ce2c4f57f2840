-- What the log factors of a symmetric matrix with whole logs achieve.
pub mod Balance
