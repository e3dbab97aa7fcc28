-- The lemmas of this crate, and those of the crates below it that are for callers.
pub mod lemmas
pub use Rattle.range_set_blaze.proofs.lemmas.HowMany as HowManyLemmas
pub use Rattle.range_set_blaze.proofs.lemmas.elements.GivenRuns
pub use Rattle.range_set_blaze.proofs.lemmas.gathering.ManySets
pub use Rattle.range_set_blaze.proofs.lemmas.gathering.SetOperations
pub use Rattle.range_set_blaze.proofs.lemmas.texts.Rewritten
pub use Rattle.rsb_integer.proofs.lemmas.AnyOf as AnyOfLemmas
pub use Rattle.rsb_integer.proofs.lemmas.Count as CountLemmas
pub use Rattle.rsb_integer.proofs.lemmas.Members as MembersLemmas
pub use Rattle.rsb_integer.proofs.lemmas.Range as RangeLemmas
pub use Rattle.rsb_streams.proofs.lemmas.calling.Nested
pub use Rattle.rsb_streams.proofs.lemmas.calling.Results
pub use Rattle.rsb_streams.proofs.lemmas.calling.RunCounts
pub use Rattle.rsb_streams.proofs.lemmas.questions.Taken
pub use Rattle.rsb_streams.proofs.lemmas.sources.Arrays
pub use Rattle.rsb_streams.proofs.lemmas.sources.Lawful
pub use Rattle.rsb_many.proofs.lemmas.calling.Results as ManyResults
pub use Rattle.rsb_many.proofs.lemmas.calling.StreamLists
pub use Rattle.rsb_many.proofs.lemmas.calling.Taken as MacroCalls
