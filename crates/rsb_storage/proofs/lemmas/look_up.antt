-- The gap around a value.
pub mod Gaps
