pub mod Copies
pub mod Made
