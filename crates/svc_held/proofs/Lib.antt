pub mod Ranges
pub mod Marks
pub mod Listed
pub mod LinesNamed
pub mod Holding
pub mod EachTask
