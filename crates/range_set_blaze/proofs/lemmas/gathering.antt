pub mod AskedValues
pub mod LentItems
pub mod ManySets
pub mod OneByOne
pub mod Pieces
pub mod SetOperations
pub mod SingleValues
