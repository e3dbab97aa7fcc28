pub mod AtLeast
pub mod Draw
pub mod Joined
pub mod Passing
