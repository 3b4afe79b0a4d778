pub mod Sorting
pub mod Fewness
pub mod Nobody
pub mod Begun
