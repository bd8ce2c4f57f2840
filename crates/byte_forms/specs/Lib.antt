-- What the match and the log factors do with numbers and doubles as bytes.
pub mod MatchBytes
pub mod FactorBytes
pub mod inner
