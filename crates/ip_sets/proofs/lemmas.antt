pub mod Selecting
pub mod aligned
pub mod listing
pub mod spelling
