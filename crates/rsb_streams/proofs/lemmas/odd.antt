pub mod Drawn
pub mod Ends
pub mod OneMore
pub mod Ranks
pub mod States
pub mod SymmetricDifference
