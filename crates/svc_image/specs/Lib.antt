pub mod Version
pub mod Image
pub mod Fields
pub mod Format
pub mod Reading
pub mod Faults
pub mod Slots
pub mod Parts
