pub mod Asking
pub mod InOrder
pub mod Statuses
