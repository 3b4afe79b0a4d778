pub mod Fronting
pub mod Costing
