pub mod Numbers
pub mod Reading
pub mod Text
pub mod laws
