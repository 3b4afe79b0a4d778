pub mod Turn
pub mod Rows
pub mod Moves
