pub mod Nested
pub mod Operations
pub mod Results
pub mod RunCounts
