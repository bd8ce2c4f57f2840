-- Laws of the best entry and of a pair.
pub mod Tests
pub mod Choices
pub mod Links
