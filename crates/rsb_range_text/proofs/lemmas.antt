-- Reading texts of ranges.
pub mod Places
pub mod Read
