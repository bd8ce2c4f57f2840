-- A double scaled by a power of two through its exponent field alone, and the limit on exponents.
pub mod Power
