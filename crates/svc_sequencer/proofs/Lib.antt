pub mod Searched
pub mod Guided
pub mod Placed
