-- Laws of lists and of Bools that other crates cite, and why the loops meet their contracts.
pub mod Bools
pub mod Lists
pub mod Fronts
pub mod Sums
pub mod Refusing
