pub mod Characters
pub mod Names
pub mod Tokens
