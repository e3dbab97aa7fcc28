pub mod Lists
pub mod OneAnswer
