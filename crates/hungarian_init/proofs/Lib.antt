-- The loops of phase 3 are the definition's steps: a record for each loop, with laws for its start, a turn and its end. Then the phases together.
pub mod Preparing
pub mod Steps
pub mod Improving
pub mod Begins
