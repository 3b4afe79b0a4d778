pub mod Grammar
pub mod Told
