pub mod elements
pub mod gathering
pub mod look_up
pub mod runs
pub mod splitting
pub mod windows
