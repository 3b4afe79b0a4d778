pub mod Twins
pub mod TwinLaws
pub mod Futures
pub mod Moves
pub mod Keys
pub mod Observations
pub mod Closed
pub mod FutureLaws
