pub mod Probes
pub mod Search
pub mod Lines
pub mod Places
pub mod Rows
pub mod Sound
pub mod Changes
pub mod Sets
