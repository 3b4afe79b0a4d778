pub mod Explained
pub mod Reasons
pub mod Words
