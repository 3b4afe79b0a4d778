pub mod Limit
pub mod Places
