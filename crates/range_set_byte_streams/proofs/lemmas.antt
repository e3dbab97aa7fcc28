-- Bytes in streams.
pub mod Header
pub mod Numbers
pub mod Runs
pub mod Source
pub mod Written
