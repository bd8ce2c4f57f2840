-- The texts that the programs print (SPECIFICATION 11).
pub mod Decimal
pub mod Report
pub mod Pairs
pub mod Form
pub mod inner
