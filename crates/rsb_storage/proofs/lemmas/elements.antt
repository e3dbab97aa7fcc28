-- The runs of entries.
pub mod Ranges
