pub mod Places
pub mod Turns
pub mod Runs
pub mod Counting
