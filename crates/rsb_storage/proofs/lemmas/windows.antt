-- What lies between two bounds.
pub mod FreeParts
pub mod GapRanges
pub mod Gaps
pub mod Kept
pub mod Parts
pub mod Ranges
