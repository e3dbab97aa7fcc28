pub mod calling
pub mod events
pub mod heap
pub mod inputs
pub mod merging
pub mod pieces
