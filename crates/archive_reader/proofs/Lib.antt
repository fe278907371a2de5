-- What other crates and the proofs of this one cite.
pub mod ReaderLaws
pub mod AnswerLaws
