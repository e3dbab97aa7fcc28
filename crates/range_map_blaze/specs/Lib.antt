-- The definitions that the contracts of maps use, and those that they cite from the crates below, so
-- that a user's crate has to name no other crate.
pub mod Elements
pub mod Ends
pub mod KeyRanges
pub mod Made
pub mod Map
pub mod Order
pub mod Parts
pub mod Retain
pub mod Storage
pub mod Written
pub mod laws
pub use Rattle.rsb_integer.specs.Rank
pub use Rattle.rsb_integer.specs.Runs
pub use Rattle.rsb_integer.specs.Selection
pub use Rattle.rsb_storage.specs.Set
pub use Rattle.rsb_storage.specs.Split
