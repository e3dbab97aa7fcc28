-- Runs split at a rank.
pub mod Parting
