pub mod Comparisons
pub mod FirstFault
pub mod Fresh
pub mod Spaced
