-- The laws of the definitions.
pub mod Address
