pub mod Recorded
pub mod Kept
pub mod Glances
pub mod Faults
pub mod Writing
pub mod Applying
pub mod Same
pub mod Moves
