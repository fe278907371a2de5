-- What the proofs of several functions use, and what other crates cite.
pub mod SignTests
pub mod EntropyLaws
pub mod SeedLaws
pub mod SeedBounds
pub mod ReasonLaws
pub mod SilentLaws
pub mod ReachLaws
