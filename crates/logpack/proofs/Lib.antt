-- What the proofs of several functions use, and what other crates cite.
pub mod TableRule
pub mod LogWordLaws
pub mod ReachLaws
pub mod Negation
