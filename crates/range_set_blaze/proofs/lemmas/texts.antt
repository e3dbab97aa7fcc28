-- Reading texts of ranges.
pub mod Pieces
pub mod Reread
pub mod Rewritten
