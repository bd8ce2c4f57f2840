-- What `write_sheet` answers and leaves.
pub mod Call
