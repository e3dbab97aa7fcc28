pub mod InOrder
pub mod KeptSets
pub mod OneReply
pub mod OneRun
pub mod SomeReply
pub mod SpelledValues
