pub mod Consumed
pub mod Cuts
pub mod Lines
pub mod Numbers
pub mod OneCommand
pub mod Parts
