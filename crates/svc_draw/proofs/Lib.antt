pub mod Remaining
pub mod Texts
