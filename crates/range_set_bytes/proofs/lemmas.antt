-- Sets as bytes.
pub mod Bits
pub mod Done
pub mod Expecting
pub mod Examples
pub mod Faults
pub mod Header
pub mod Leb128
pub mod NextRun
pub mod Room
pub mod Writing
