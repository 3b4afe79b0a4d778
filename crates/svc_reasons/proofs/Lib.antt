pub mod Sound
pub mod Explaining
