pub mod Counting
pub mod VersionFields
pub mod OrdersHeld
pub mod TaskFields
pub mod LoneLines
