pub mod Between
pub mod Cuts
pub mod Meeting
