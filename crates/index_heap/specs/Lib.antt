-- The binary heap of rows by distance: its array steps, on which ties in the match depend; what holds of it; how
-- slices hold it.
pub mod IndexHeap
pub mod inner
