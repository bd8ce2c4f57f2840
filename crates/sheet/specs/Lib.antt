-- The sheet file: its records and the writer's file (Format), what a file means and when it is refused (Reading).
pub mod Format
pub mod Reading
pub mod Canonical
pub mod inner
