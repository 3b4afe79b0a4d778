pub mod HeldRows
pub mod Standings
pub mod Settled
pub mod Caches
pub mod Namers
pub mod TaskRows
