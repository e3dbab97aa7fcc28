pub mod Arrays
pub mod Known
pub mod Lawful
pub mod ListCalls
pub mod Listed
pub mod OneCall
pub mod Vectors
