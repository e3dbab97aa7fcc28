pub mod BoundExamples
pub mod DigitExamples
pub mod Digits
pub mod Heads
pub mod HeadsIn
pub mod Keys
pub mod Places
