pub mod Passes
pub mod Labels
pub mod Programs
pub mod Texts
