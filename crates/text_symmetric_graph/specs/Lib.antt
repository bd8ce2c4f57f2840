-- The cost graph of a symmetric file, as a definition.
pub mod Graph
pub mod inner
