pub mod Answering
pub mod Events
pub mod Leading
pub mod Playing
pub mod Script
pub mod Suppliers
