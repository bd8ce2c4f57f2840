-- The assembly of triplets: what they assemble to, and how its steps go.
pub mod Built
pub mod Order
pub mod inner
