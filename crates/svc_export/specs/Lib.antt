pub mod Changes
pub mod Chrome
pub mod Events
pub mod Export
pub mod Vcd
