pub mod replying
pub mod writing
