-- Laws of numbers as bytes, and of the root in this form.
pub mod Words
pub mod ReadBack
pub mod Roots
