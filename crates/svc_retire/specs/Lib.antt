pub mod Memory
pub mod Spills
pub mod Caches
pub mod Purges
