pub mod Bounds
pub mod Joining
pub mod Placing
pub mod TakingIn
