pub mod Apart
pub mod Drained
pub mod Loop
pub mod Pieces
pub mod Spans
