pub mod OneTurn
pub mod ReplacesHeld
