pub mod Effects
pub mod Places
pub mod Decoded
pub mod Empty
