pub mod CostRows
pub mod Charging
pub mod Standing
pub mod Totals
pub mod LostLoads
pub mod Asking
pub mod ActiveRuns
pub mod FirstReads
