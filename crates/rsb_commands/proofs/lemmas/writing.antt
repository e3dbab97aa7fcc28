pub mod Appended
pub mod FaultLine
pub mod LaidText
pub mod Replies
