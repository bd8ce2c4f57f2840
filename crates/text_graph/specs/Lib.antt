-- The cost graph of a tie file, as a definition.
pub mod Graph
