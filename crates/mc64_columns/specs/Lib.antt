-- What both builders of cost graphs do to a column of logs.
pub mod Columns
pub mod Graphs
pub mod inner
