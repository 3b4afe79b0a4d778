pub mod Joined
pub mod Legend
pub mod Picture
pub mod Tallies
