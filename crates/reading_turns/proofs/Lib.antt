-- What the proof of a function uses, and what other crates cite.
pub mod TurnLaws
pub mod ZeroLaws
