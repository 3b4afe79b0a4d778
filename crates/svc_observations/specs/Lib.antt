pub mod Rosters
pub mod Order
pub mod Rows
pub mod Sought
pub mod Sightings
