pub mod Steps
pub mod Immediates
pub mod Offsets
pub mod Instructions
pub mod Branches
pub mod Couples
