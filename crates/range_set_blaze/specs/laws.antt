-- The laws of the definitions, and of those that Lib.antt re-exports.
pub mod Hash
pub mod Order
pub use Rattle.rsb_range_text.specs.laws.Number
pub use Rattle.rsb_streams.specs.laws.Ascending
pub use Rattle.rsb_streams.specs.laws.Calls
pub use Rattle.rsb_streams.specs.laws.Listed
pub use Rattle.rsb_streams.specs.laws.Stream
pub use Rattle.rsb_streams.specs.laws.Touching
