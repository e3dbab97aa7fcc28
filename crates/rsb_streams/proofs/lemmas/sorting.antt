pub mod Collected
pub mod Sorted
