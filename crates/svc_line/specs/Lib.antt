pub mod Bits
pub mod Line
