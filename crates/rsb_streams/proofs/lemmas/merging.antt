pub mod Answers
pub mod PutBack
