-- The laws of the definitions.
pub mod Enumerated
pub mod Rank
