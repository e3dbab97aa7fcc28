-- Lists of runs.
pub mod Apart
pub mod EndEntries
pub mod Found
pub mod Maps
pub mod Starts
pub mod Storage
