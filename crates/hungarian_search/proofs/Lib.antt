-- Laws of the memory between searches: what each function of the code does to it, as a step of the definition.
pub mod Raises
pub mod Applies
pub mod Augments
pub mod Standings
pub mod Starts
