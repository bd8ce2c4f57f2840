-- Laws of the heap that other crates cite: Rows (inverse arrays, which rows are in it), Order (heap order, the top is least), Keys (the keys beside
-- its places), Marks (what `pos` has for rows that are not in it).
pub mod Keys
pub mod Steps
pub mod Marks
pub mod Moves
pub mod Rows
pub mod Order
