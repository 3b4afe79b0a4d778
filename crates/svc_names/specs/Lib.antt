pub mod Given
pub mod Made
pub mod Near
pub mod Rows
pub mod Table
