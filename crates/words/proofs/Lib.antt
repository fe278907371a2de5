-- What the proofs of several functions use, and what other crates cite.
pub mod PartLaws
pub mod JoinLaws
