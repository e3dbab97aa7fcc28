pub mod Source
pub mod Transfer
