pub mod Rosters
pub mod Listing
pub mod Ordering
pub mod Firsts
