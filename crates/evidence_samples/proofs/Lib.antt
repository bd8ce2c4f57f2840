-- The one theorem of the sample table.
mod Large
pub mod Table
