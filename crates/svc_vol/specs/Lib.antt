pub mod Lines
pub mod Value
pub mod Walked
pub mod Listed
