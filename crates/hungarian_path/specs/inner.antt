-- What the inner functions require and promise; only proofs use it.
pub mod Views
pub mod Steps
pub mod StepsGrow
pub mod StepsSearch
pub mod StepsFlip
pub mod StepsArrays
