pub mod Bursts
pub mod Moves
pub mod Steps
pub mod Orders
