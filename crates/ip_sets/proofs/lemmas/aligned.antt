pub mod Biggest
pub mod FewRuns
pub mod Fewest
pub mod Left
pub mod Meeting
pub mod OneMore
pub mod Powers
pub mod Split
