-- The laws of the definitions.
pub mod Order
pub mod Text
pub mod Value
