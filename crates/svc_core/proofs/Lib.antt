pub mod Decoding
pub mod Differing
