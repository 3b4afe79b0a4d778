pub mod Runs
pub mod Seen
pub mod Bounds
