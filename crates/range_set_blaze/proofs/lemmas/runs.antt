pub mod Appended
pub mod Counts
