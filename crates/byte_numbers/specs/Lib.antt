-- Numbers and doubles as bytes, and the square root in this form.
pub mod Bytes
pub mod Root
