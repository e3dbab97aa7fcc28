pub mod ElementRoom
pub mod Enumerated
pub mod Prefix
pub mod Rank
pub mod Room
pub mod Runs
pub mod Selection
pub mod laws
