mod AskedTurns
pub mod Keeping
pub mod Seats
pub mod Reading
pub mod ActiveTasks
pub mod Assigning
pub mod Cancelling
pub mod Replacing
pub mod Driven
mod Testing
pub mod Settling
pub mod Committing
mod EditedSeats
mod Submitting
mod Opening
mod Refused
pub mod Copying
