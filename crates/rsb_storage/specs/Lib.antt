pub mod FirstFit
pub mod GapsIn
pub mod Set
pub mod Split
pub mod Starts
pub mod Storage
pub mod Windows
