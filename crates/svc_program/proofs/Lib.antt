pub mod Assembled
pub mod Joined
pub mod WholeScript
pub mod Needed
pub mod Continuing
pub mod Finding
