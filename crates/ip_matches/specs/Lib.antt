pub mod FoundAddress
pub mod KeptLines
pub mod LineFilter
pub mod MatchFault
pub mod Progress
pub mod Transfer
