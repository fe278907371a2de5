-- What the proofs of several functions use, and what other crates cite.
pub mod IntervalLaws
pub mod AdaptationLaws
