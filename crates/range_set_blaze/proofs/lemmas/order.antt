-- How sets compare, what they feed a hasher, and where they begin and end.
pub mod AlongRuns
pub mod CommonFronts
pub mod EndRuns
pub mod FedRuns
pub mod KnownTests
pub mod OneOrder
