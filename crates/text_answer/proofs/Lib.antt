-- Why the answer is the definition's text.
mod Reports
mod Graphs
mod Assembly
mod Mirrors
mod Files
pub mod Again
