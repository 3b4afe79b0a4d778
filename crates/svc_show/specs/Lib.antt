pub mod Rows
pub mod Cores
pub mod Named
pub mod Show
