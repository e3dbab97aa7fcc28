pub mod Grown
pub mod Retained
