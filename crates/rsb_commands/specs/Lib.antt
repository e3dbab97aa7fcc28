pub mod Answer
pub mod Ending
pub mod Interpreter
pub mod Page
pub mod Text
pub mod Transfer
