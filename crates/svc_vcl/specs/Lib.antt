pub mod Listed
pub mod Described
pub mod Planned
