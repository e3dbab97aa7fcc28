pub mod Ahead
pub mod EachCall
