-- The laws of the definitions.
pub mod Inputs
pub mod KMerge
pub mod Many
pub mod Multiway
pub mod SweepPieces
