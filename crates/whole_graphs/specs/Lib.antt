-- The cost graphs of both kinds whose logs are whole-number logarithms of the values.
pub mod Graphs
