-- The laws of the definitions.
pub mod Adapter
pub mod AdapterCall
pub mod Ascending
pub mod Calls
pub mod Fused
pub mod Listed
pub mod Merge
pub mod NotIter
pub mod OddPieces
pub mod Part
pub mod PutBack
pub mod Result
pub mod Stream
pub mod Sublists
pub mod Touching
pub mod UnionIter
