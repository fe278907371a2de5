-- What the proofs of several functions use, and what other crates cite.
pub mod LoopLaws
pub mod PartsLaws
pub mod EntryLaws
pub mod Cases
pub mod ToldBounds
pub mod SilenceLaws
