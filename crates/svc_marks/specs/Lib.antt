pub mod Bars
pub mod Marks
pub mod Rows
pub mod Stores
pub mod View
