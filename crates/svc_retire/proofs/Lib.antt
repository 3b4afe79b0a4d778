pub mod Bools
pub mod Counts
pub mod Listing
pub mod Squashing
pub mod Emptying
pub mod Dropping
pub mod Newest
