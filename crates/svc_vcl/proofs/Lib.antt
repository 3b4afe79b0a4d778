pub mod Searching
pub mod Slots
pub mod Newest
pub mod ReadPlans
pub mod WritePlans
pub mod Staling
pub mod Describing
pub mod Linking
