pub mod Past
pub mod Rows
pub mod Blanks
