mod Finding
pub mod Fewness
mod Copying
mod Assembling
pub mod Validity
pub mod Ranking
