pub mod Addresses
pub mod Charges
pub mod Rows
pub mod Sums
pub mod Room
