pub mod Counting
pub mod Equality
pub mod FirstItems
pub mod Taken
pub mod Tests
