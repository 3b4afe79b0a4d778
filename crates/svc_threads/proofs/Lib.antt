pub mod Rises
pub mod Counting
pub mod Agreeing
pub mod Owning
pub mod Leasing
