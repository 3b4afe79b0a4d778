pub mod Boards
pub mod Counts
pub mod Ports
pub mod Faults
pub mod Outcomes
