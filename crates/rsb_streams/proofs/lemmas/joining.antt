pub mod Gathered
pub mod Loop
