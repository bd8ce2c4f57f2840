-- Inf-norm factors: the largest size in each row, and the factors made of it.
pub mod Maxima
pub mod Factors
