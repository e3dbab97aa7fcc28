pub mod BadNumber
pub mod Fault
pub mod Format
pub mod Leb128
pub mod Reading
