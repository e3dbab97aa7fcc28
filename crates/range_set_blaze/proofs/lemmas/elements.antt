pub mod Ends
pub mod GivenRuns
pub mod Listed
pub mod Shortened
