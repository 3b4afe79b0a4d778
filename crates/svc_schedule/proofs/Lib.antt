pub mod Accepting
pub mod Ending
pub mod Epochs
pub mod Going
pub mod Making
pub mod Opening
pub mod Stepping
pub mod Turning
