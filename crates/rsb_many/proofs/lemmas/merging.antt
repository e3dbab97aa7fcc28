pub mod Lists
pub mod OneAnswer
pub mod Operations
pub mod Sets
