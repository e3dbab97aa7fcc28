pub mod Examples
pub mod Results
pub mod StreamLists
pub mod Taken
