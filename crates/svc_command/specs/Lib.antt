pub mod Asked
pub mod Given
pub mod Line
pub mod Reasons
