pub mod Tasks
pub mod Code
